-- Packages by their names, and packages that are built.
use Rattle.std.specs.Prelude.{◌≡◌, ◌||◌, ℕ, List, [], Bool}
use Rattle.std.specs.Borrow.{Bor}
use Rattle.std.specs.BTreeMap.{BTreeMap, get_by}
use Rattle.std.specs.Cmp.Lexicographic.{slice_cmp}
use Rattle.std.specs.Global.{Vec}
use Rattle.std.specs.Option.{option_map_or}
use Rattle.std.specs.Ordering.{nat_cmp}
use Rattle.cargo_plans.specs.built_parts.BuiltViews.{builds_in}
use Rattle.cargo_plans.specs.declared.built_parts.built_parts.BuiltParts.{BuiltParts}
use Rattle.cargo_workspaces.specs.Workspaces.{PackageText, Text}
use Rattle.plan_rows.specs.declared.side.Side.TheVariants.{Host, Target}
use Rattle.feats_policies.specs.checks.Found.{with_name}

-- The numbers of a name; empty if there are none.
abbrev pub named : BTreeMap (Bor Text) (Vec ℕ) → Text → List ℕ
named names q = option_map_or (λ g. g.items) (get_by (λ k. slice_cmp nat_cmp q k.now) names) []

-- Each name has those of the packages that have it.
abbrev pub HasNames : BTreeMap (Bor Text) (Vec ℕ) → List PackageText → List ℕ → Type 0
HasNames names packages numbers = (q : Text) → named names q ≡ with_name packages numbers q

-- Whether a package is built on one of the sides.
abbrev pub builds_anywhere : BuiltParts → ℕ → Bool
builds_anywhere built p = builds_in built Target p || builds_in built Host p
