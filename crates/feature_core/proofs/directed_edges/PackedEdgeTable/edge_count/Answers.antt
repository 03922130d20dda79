use Rattle.std.proofs.Common.{◌∙◌, ap, length}
use Rattle.feature_core.specs.Ways.{Reading}
use Rattle.feature_core.proofs.DirectedLemmas.{content_length}
use Rattle.feature_core.proofs.directed_edges.PackedEdgeTable.edge_count.Goals as goal

pub returns : goal.returns
returns c =
    let p = c.self.inside in
    c.edge_count.ensures ∙ content_length p.weak.now.entries p.direction p.digraph.now p.edges.now c.self.invariant.each ∙ ap (λ (r : Reading). length r.holds.ways) c.self.view_is
