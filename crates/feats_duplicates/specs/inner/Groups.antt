-- Maps of groups.
use Rattle.std.specs.Prelude.{◌≡◌, ℕ, List, [], Bool, length, map, nat_lt}
use Rattle.std.specs.Borrow.{Bor}
use Rattle.std.specs.BTreeMap.{BTreeMap, get_by}
use Rattle.std.specs.Cmp.Lexicographic.{slice_cmp}
use Rattle.std.specs.Global.{Vec}
use Rattle.std.specs.Option.{option_map_or}
use Rattle.std.specs.Ordering.{nat_cmp}
use Rattle.std.specs.declared.cmp.Ordering.{Ordering}
use Rattle.cargo_workspaces.specs.Workspaces.{Text, PackageText, text_cmp}
use Rattle.cargo_plans.specs.plan_units.Units.{UnitText}
use Rattle.feats_duplicates.specs.Versions.{VersionText, VersionsText, built_with_name}

-- The group of a number; empty if there is none.
abbrev pub group_at : {T : Type 0} → BTreeMap ℕ (Vec T) → ℕ → List T
group_at groups q = option_map_or (λ g. g.items) (get_by (nat_cmp q) groups) []

-- The numbers of a name; empty if there are none.
abbrev pub named : BTreeMap (Bor Text) (Vec ℕ) → Text → List ℕ
named names q = option_map_or (λ g. g.items) (get_by (λ k. slice_cmp nat_cmp q k.now) names) []

-- The order of a map's keys.
abbrev pub key_cmp : Bor Text → Bor Text → Ordering
key_cmp a b = text_cmp a.now b.now

-- Each name has the numbers of the packages with this name that are built.
abbrev pub HasNames : BTreeMap (Bor Text) (Vec ℕ) → List PackageText → List UnitText → Type 0
HasNames names packages units = (q : Text) → named names q ≡ built_with_name packages units q

-- The name of an entry, with what `f` says of each of its numbers.
abbrev pub entry_text : (ℕ → VersionText) → Bor Text × Vec ℕ → VersionsText
entry_text f e = record { name = e.0.now; versions = map f e.1.items }

-- Whether a name has several numbers.
abbrev pub has_more : Bor Text × Vec ℕ → Bool
has_more e = nat_lt 1 (length e.1.items)
