use Rattle.std.proofs.Common.{◌∙◌, None, ap, map}
use Rattle.std.proofs.lemmas.List.{map-append}
use Rattle.feats_lines.specs.parts.Views.{row_text}
use Rattle.feats_routes.specs.Lines.{rows_from}
use Rattle.feats_routes.specs.Shown.{shown_text}
use Rattle.feats_routes.proofs.Loops.{rows_more}
use Rattle.feats_routes.proofs.lines.rows_of.Goals as goal

pub loop-node-preserved : goal.loop-node-preserved
loop-node-preserved g c =
    let s = shown_text g.P.Platform.holds c.args.shown.now in
    rows_more s c.args.nodes.now c.loop-node.node-index c.loop-node.before (rows_from s None c.args.nodes.now) (map row_text c.loop-node.rows.items) (map row_text c.push.new.self.items) _
    c.loop-node-test.true c.loop-node.invariant
    (ap (map row_text) c.in_ok-push.ensures.items ∙ map-append row_text c.loop-node.rows.items _) c.in_ok-row_of.ensures
