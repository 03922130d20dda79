use Rattle.std.proofs.Common.{◌≡◌, ◌++◌, None, drop}
use Rattle.feats_routes.specs.Objects.{steps_from}
use Rattle.feats_routes.specs.Shown.{shown_text}
use Rattle.feats_routes.proofs.objects.write_steps.Given as goal

abbrev pub invariant-loop-node : goal.invariant-loop-node
invariant-loop-node g l =
    let s = shown_text g.P.Platform.holds l.shown in
    record {
      before : l.writer.before ≡ l.initial.writer.before;
      tokens : l.initial.writer.tokens ++ steps_from s None l.nodes ≡ l.writer.tokens ++ steps_from s l.before (drop l.node-index l.nodes);
    }
