-- The places of packages, in groups by their numbers.
use Rattle.std.specs.Prelude.{◌≡◌, ℕ, List, [], map}
use Rattle.std.specs.Borrow.{Bor}
use Rattle.std.specs.BTreeMap.{BTreeMap, get_by}
use Rattle.std.specs.Global.{Vec}
use Rattle.std.specs.Option.{option_map_or}
use Rattle.std.specs.Ordering.{nat_cmp}
use Rattle.cargo_workspaces.specs.Views.{texts}
use Rattle.cargo_workspaces.specs.Workspaces.{Text}
use Rattle.cargo_plans.specs.plan_units.Units.{UnitText}
use Rattle.feats_slim.specs.edits.Losses.{places_of}

-- A borrowed list of features.
abbrev pub Borrowed : Type 0
Borrowed = Bor (List (Bor Text))

-- The group of a number; empty if there is none.
abbrev pub group_at : {T : Type 0} → BTreeMap ℕ (Vec T) → ℕ → List T
group_at groups q = option_map_or (λ g. g.items) (get_by (nat_cmp q) groups) []

abbrev pub lists_text : List Borrowed → List (List Text)
lists_text = map (λ l. texts l.now)

-- The groups are the places of the units, by their packages.
abbrev pub HasPlaces : BTreeMap ℕ (Vec Borrowed) → List UnitText → Type 0
HasPlaces groups units = (q : ℕ) → lists_text (group_at groups q) ≡ places_of units q
