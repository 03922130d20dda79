use Rattle.std.proofs.Common.{nat_eq}
use Rattle.cargo_plans.specs.plan_units.UnitViews.{unit_text}
use Rattle.cargo_plans.specs.plan_units.Units.{UnitText}
use Rattle.feats_slim.proofs.Lists.{mapped_more}
use Rattle.feats_slim.proofs.edits.places.places_by_package.Goals as goal

pub loop-unit-preserved : goal.loop-unit-preserved
loop-unit-preserved c = λ q.
    mapped_more unit_text (λ (u : UnitText). nat_eq q u.number) (λ (u : UnitText). u.features) c.args.units.now c.loop-unit.unit-index c.unit-item.result _ _ _
    c.loop-unit-test.true c.unit-item.is (c.loop-unit.invariant q) (c.in_ok-push_place.ensures q)
