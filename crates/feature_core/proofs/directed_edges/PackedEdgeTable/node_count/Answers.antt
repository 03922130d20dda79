use Rattle.std.proofs.Common.{◌∙◌, ap, subst}
use Rattle.walk_engine.specs.Walks.{EndsAreNodes}
use Rattle.feature_core.specs.Ways.{Reading}
use Rattle.feature_core.proofs.DirectedLemmas.{content_ends}
use Rattle.feature_core.proofs.directed_edges.PackedEdgeTable.node_count.Goals as goal

pub returns-clause-count : goal.returns-clause-count
returns-clause-count c = c.node_count.ensures ∙ ap (λ (r : Reading). r.holds.nodes) c.self.view_is

pub returns-clause-ends : goal.returns-clause-ends
returns-clause-ends c =
    let p = c.self.inside in
    subst (λ (r : Reading). EndsAreNodes r.holds) c.self.view_is (content_ends p.weak.now.entries p.direction p.digraph.now p.edges.now c.facts.ensures c.self.invariant.gates)
