use Rattle.std.proofs.Common.{◌∷◌, [], ℕ}
use Rattle.std.specs.Borrow.{Bor}
use Rattle.cargo_workspaces.specs.Workspaces.{Text}
use Rattle.cargo_plans.specs.declared.plan_units.unit.Place.TheVariants.{Target}
use Rattle.feats_duplicates.proofs.Lists.{numbered_more}
use Rattle.feats_duplicates.proofs.alone.all_places.Goals as goal

pub loop-number-preserved : goal.loop-number-preserved
loop-number-preserved c =
    numbered_more (λ (t : Bor Text). t.now) (λ (k : ℕ). Target k ∷ []) c.args.names.now c.loop-number.number _ _ _ c.loop-number-test.true c.loop-number.invariant c.in_ok-push-2.ensures.items
