use Rattle.std.proofs.Common.{◌<◌, arith}
use Rattle.std.proofs.lemmas.List.Elements.{All-same}
use Rattle.feature_core.specs.Built.{digraph_of}
use Rattle.guppy_support.specs.Cycles.{cyclic_components}
use Rattle.feature_graph.specs.Views.{tables_of_graph, built_of}
use Rattle.feature_graph.proofs.OrderedLemmas.{order_long}
use Rattle.feature_graph.proofs.cycles.Cycles.all_cycles.Goals as goal

pub invariant_of-result : goal.invariant_of-result
invariant_of-result c =
    let g = c.args.self.now.graph in
    let o = c.cyclic_components.result.0.now in
    let es = (digraph_of (built_of g)).edges in
    record {
      order = c.facts.ensures;
      long = order_long (tables_of_graph g) (built_of g) o g.is_built c.cyclic_components.ensures.order;
      within = All-same (λ k. k < o.count) c.cyclic_components.result.1.now (cyclic_components es o) c.cyclic_components.ensures.cyclic (c.views_stay_within.ensures.components es o);
      bounded = omega arith;
    }
