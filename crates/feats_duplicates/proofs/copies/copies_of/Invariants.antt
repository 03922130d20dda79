use Rattle.std.proofs.Common.{◌≡◌, ◌++◌, map, drop}
use Rattle.cargo_plans.specs.plan_units.UnitViews.{unit_text}
use Rattle.feats_duplicates.proofs.copies.copies_of.Given as goal

abbrev pub invariant-loop-unit : goal.invariant-loop-unit
invariant-loop-unit l = map unit_text l.units ≡ map unit_text l.copies.items ++ map unit_text (drop l.unit-index l.units)
