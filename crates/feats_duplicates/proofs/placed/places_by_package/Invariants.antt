use Rattle.std.proofs.Common.{◌≡◌, ◌++◌, ℕ, map, drop}
use Rattle.cargo_plans.specs.plan_units.UnitViews.{unit_text}
use Rattle.feats_duplicates.specs.Built.{places_of}
use Rattle.feats_duplicates.specs.Views.{placed_text}
use Rattle.feats_duplicates.specs.inner.Groups.{group_at}
use Rattle.feats_duplicates.proofs.placed.places_by_package.Given as goal

abbrev pub invariant-loop-unit : goal.invariant-loop-unit
invariant-loop-unit l =
    (q : ℕ) → places_of (map unit_text l.units) q ≡ map placed_text (group_at l.groups q) ++ places_of (map unit_text (drop l.unit-index l.units)) q
