use Rattle.std.proofs.Common.{◌∙◌}
use Rattle.feats_plans.proofs.Steps.{numbers_more}
use Rattle.feats_plans.proofs.numbered_workspaces.numbers.numbers_of.Goals as goal

pub loop-id-preserved : goal.loop-id-preserved
loop-id-preserved c = c.in_ok-push.ensures.items ∙ numbers_more _ c.args.named.now c.loop-id.id-index _ _ _ c.loop-id-test.true c.loop-id.invariant c.number_of.ensures
