use Rattle.std.proofs.Common.{◌≡◌, sym, subst}
use Rattle.std.specs.Prelude.{slice_get}
use Rattle.walk_engine.specs.Walks.{starting}
use Rattle.feature_core.specs.Ways.{Reading}
use Rattle.feature_core.proofs.DirectedLemmas.{take_told}
use Rattle.feature_core.proofs.directed_edges.PackedEdgeTable.edge_from.Goals as goal

pub returns : goal.returns
returns c =
    let p = c.self.inside in
    subst (λ (r : Reading). c.edge_number.result ≡ slice_get (starting r.holds c.args.start) c.args.place) c.self.view_is
    (sym (take_told p.weak.now.entries p.direction p.digraph.now p.edges.now c.args.start c.args.place c.edge_number.result c.self.invariant.each c.edge_number.ensures))
