use Rattle.std.proofs.Common.{ℕ, ◌<◌, ◌==◌, length, subst}
use Rattle.std.specs.Prelude.{All, filter, slice_index}
use Rattle.digraph_orders.specs.Sequences.{component_of}
use Rattle.std.proofs.lemmas.List.Elements.{All-same}
use Rattle.feature_core.specs.Nodes.{nodes}
use Rattle.feature_graph.specs.Views.{tables_of_graph}
use Rattle.feature_graph.proofs.TiedLemmas.{listed_below}
use Rattle.feature_graph.proofs.cycles.AllCyclesIterator.next.Goals as goal

pub ids_of-requires : goal.ids_of-requires
ids_of-requires c =
    let o = c.self.inside.order.now in
    let t = tables_of_graph c.self.inside.graph in
    let test = λ (v : ℕ). component_of o v == slice_index c.self.inside.components.now c.self.inside.passed in
    let below = subst (λ n. All (λ v. v < n) (filter test o.list)) c.self.invariant.long (listed_below o test c.self.invariant.order) in
    All-same (λ v. v < length (nodes t)) c.component_nodes-nodes.result.now (filter test o.list) c.component_nodes-nodes.ensures below
