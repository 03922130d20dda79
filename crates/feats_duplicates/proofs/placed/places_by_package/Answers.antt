use Rattle.std.proofs.Common.{◌∙◌, ◌++◌, ◌∷◌, [], ap, cond, map, nat_eq}
use Rattle.cargo_plans.specs.plan_units.UnitViews.{unit_text}
use Rattle.cargo_plans.specs.plan_units.Units.{UnitText}
use Rattle.feats_duplicates.specs.Built.{placed}
use Rattle.feats_duplicates.specs.Views.{placed_text}
use Rattle.feats_duplicates.specs.inner.Groups.{group_at}
use Rattle.feats_duplicates.proofs.Lists.{added, mapped_more}
use Rattle.feats_duplicates.proofs.placed.places_by_package.Goals as goal

pub loop-unit-preserved : goal.loop-unit-preserved
loop-unit-preserved c = λ q.
    let u = c.unit-item.result in
    mapped_more unit_text (λ (u : UnitText). nat_eq q u.number) placed c.args.units.now c.loop-unit.unit-index u _ _ _
    c.loop-unit-test.true c.unit-item.is (c.loop-unit.invariant q)
    (added placed_text _ _ _ _ (c.in_ok-add.ensures q) ∙ ap (λ y. map placed_text (group_at c.loop-unit.groups q) ++ cond (nat_eq q u.«package») (y ∷ []) []) c.placed.ensures)
