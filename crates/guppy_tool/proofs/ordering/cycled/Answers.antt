use Rattle.std.proofs.Common.{◌≡◌, subst}
use Rattle.digraph_orders.specs.Sequences.{IsOrderOf}
use Rattle.guppy_packages.specs.Tables.{Tables}
use Rattle.feature_core.specs.Built.{Built, digraph_of}
use Rattle.feature_graph.specs.Tied.{cycle_names}
use Rattle.feature_graph.specs.Values.{Graph}
use Rattle.guppy_tool.specs.Answers.{groups}
use Rattle.guppy_tool.proofs.OrderingLemmas.{lists_cycles}
use Rattle.guppy_tool.proofs.ordering.cycled.Goals as goal

pub returns : goal.returns
returns c =
    let t : Tables = c.args.graph.now in
    let built : Built = c.args.built.now in
    let at = c.in_ok-lines_of_cycles.ensures in
    lists_cycles t built at.0 _ c.requires
    (subst (λ (g : Graph). IsOrderOf (digraph_of g.built) at.0) c.feature_graph.ensures at.1)
    c.one_digraph.ensures
    (subst (λ (g : Graph). c.in_ok-lines_of_cycles.field-0.items ≡ groups (cycle_names g at.0)) c.feature_graph.ensures at.2)
