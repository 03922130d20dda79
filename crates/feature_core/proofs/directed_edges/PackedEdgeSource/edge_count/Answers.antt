use Rattle.std.proofs.Common.{◌∙◌, ap, subst, length}
use Rattle.walk_engine.specs.Walks.{EndsAreNodes}
use Rattle.feature_core.specs.Ways.{Reading}
use Rattle.feature_core.proofs.DirectedLemmas.{content_ends, content_length}
use Rattle.feature_core.proofs.directed_edges.PackedEdgeSource.edge_count.Goals as goal

pub returns-clause-count : goal.returns-clause-count
returns-clause-count c =
    let p = c.self.inside in
    c.edge_count.ensures ∙ content_length p.weak.now.entries p.direction p.digraph.now p.edges.now c.self.invariant.each ∙ ap (λ (r : Reading). length r.holds.ways) c.self.view_is

pub returns-clause-nodes : goal.returns-clause-nodes
returns-clause-nodes c =
    let p = c.self.inside in
    subst (λ (r : Reading). EndsAreNodes r.holds) c.self.view_is (content_ends p.weak.now.entries p.direction p.digraph.now p.edges.now c.facts.ensures c.self.invariant.gates)
