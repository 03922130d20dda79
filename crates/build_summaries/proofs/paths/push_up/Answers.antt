use Rattle.std.proofs.Common.{◌∙◌, arith}
use Rattle.build_summaries.proofs.Ways.{pushed, up_from}
use Rattle.build_summaries.proofs.paths.push_up.Goals as goal

pub loop-name-preserved : goal.loop-name-preserved
loop-name-preserved c =
    c.loop-name.invariant
    ∙ rw (up_from c.args.names.now c.loop-name._name-index (omega (arith, c.loop-name-test.true)), c.in_ok-push.ensures.items) (pushed c.loop-name.way.items _ _)
