-- Places and rows by their packages.
use Rattle.std.specs.Prelude.{◌≡◌, ℕ, List, map}
use Rattle.std.specs.BTreeMap.{BTreeMap}
use Rattle.std.specs.Global.{Vec}
use Rattle.cargo_plans.specs.plan_units.Units.{UnitText}
use Rattle.feats_duplicates.specs.Alone.{MemberUnitText, rows_of}
use Rattle.feats_duplicates.specs.Built.{places_of}
use Rattle.feats_duplicates.specs.Views.{member_unit_text, placed_text}
use Rattle.feats_duplicates.specs.declared.member_units.MemberUnit.{MemberUnit}
use Rattle.feats_duplicates.specs.declared.placed.PlaceFeatures.{PlaceFeatures}
use Rattle.feats_duplicates.specs.inner.Groups.{group_at}

-- The groups are the places of the units, by their packages.
abbrev pub HasPlaces : BTreeMap ℕ (Vec PlaceFeatures) → List UnitText → Type 0
HasPlaces groups units = (q : ℕ) → map placed_text (group_at groups q) ≡ places_of units q

-- The groups are those of the rows, by their packages.
abbrev pub HasRows : BTreeMap ℕ (Vec MemberUnit) → List MemberUnitText → Type 0
HasRows groups rows = (q : ℕ) → map member_unit_text (group_at groups q) ≡ rows_of rows q
