use Rattle.std.proofs.Common.{◌∙◌, ◌++◌, None}
use Rattle.feats_routes.specs.Objects.{steps_from}
use Rattle.feats_routes.specs.Shown.{shown_text}
use Rattle.feats_routes.proofs.Loops.{steps_more}
use Rattle.feats_routes.proofs.objects.write_steps.Goals as goal

pub loop-node-preserved : goal.loop-node-preserved
loop-node-preserved g c =
    let s = shown_text g.P.Platform.holds c.args.shown.now in
    record {
      before = c.in_ok-write_step.ensures.before ∙ c.loop-node.invariant.before;
      tokens = steps_more s c.args.nodes.now c.loop-node.node-index c.loop-node.before (c.args.writer.now.tokens ++ steps_from s None c.args.nodes.now) c.loop-node.writer.tokens c.write_step.new.writer.tokens
          c.loop-node-test.true c.loop-node.invariant.tokens c.in_ok-write_step.ensures.tokens;
    }
