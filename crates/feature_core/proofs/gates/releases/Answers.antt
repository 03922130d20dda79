use Rattle.std.proofs.Common.{◌<◌, arith, get_or, length}
use Rattle.std.proofs.lemmas.Option.{slice_get-get_or}
use Rattle.feature_edges.specs.feature_links.Facts.{base_edge}
use Rattle.feature_core.proofs.ReleaseSteps.{split_more, split_all}
use Rattle.feature_core.proofs.gates.releases.Goals as goal

pub loop-number-preserved : goal.loop-number-preserved
loop-number-preserved c =
    let edges = c.args.edges.now in
    let within : c.loop-number.number < length edges = omega (arith, c.loop-number-test.true, c.len-number-end.ensures) in
    let at = slice_get-get_or edges c.loop-number.number base_edge within in
    split_more c.args.weak.now.entries edges c.loop-number.number (get_or edges c.loop-number.number base_edge) c.edge_gate-gate.result c.loop-number.released.items c.push_release.new.released.items
    at (c.edge_gate-gate.ensures (get_or edges c.loop-number.number base_edge) at) c.in_ok-push_release.ensures c.loop-number.invariant

pub returns : goal.returns
returns c = split_all c.args.weak.now.entries c.args.edges.now c.loop-number.number c.loop-number.released.items (omega arith) c.loop-number.invariant
