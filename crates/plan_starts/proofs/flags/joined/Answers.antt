use Rattle.plan_starts.proofs.Lists.{joined_more}
use Rattle.plan_starts.proofs.flags.joined.Goals as goal

pub loop-number-preserved : goal.loop-number-preserved
loop-number-preserved c = joined_more c.loop-number.number c.args.target.now c.args.host.now _ _ c.loop-number.invariant c.in_ok-extend_from_slice.ensures.items
