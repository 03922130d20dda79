use Rattle.std.proofs.Common.{◌≡◌, ◌++◌, drop, map}
use Rattle.cargo_plans.specs.plan_units.Units.{UnitText}
use Rattle.cargo_plans.specs.plan_units.UnitViews.{unit_text}
use Rattle.feats_routes.proofs.routes.owners_of.Given as goal

abbrev pub invariant-loop-unit : goal.invariant-loop-unit
invariant-loop-unit l = map (λ (u : UnitText). u.number) (map unit_text l.units) ≡ l.owners.items ++ map (λ (u : UnitText). u.number) (map unit_text (drop l.unit-index l.units))
