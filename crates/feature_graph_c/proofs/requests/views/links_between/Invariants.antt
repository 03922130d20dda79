use Rattle.std.proofs.Common.{◌≡◌, ◌++◌}
use Rattle.guppy_support.specs.Views.{links_in_order}
use Rattle.feature_graph_c.proofs.requests.views.links_between.Given as goal

-- The edges so far and those to come are all edges in order.
abbrev pub invariant-loop-edge : goal.invariant-loop-edge
invariant-loop-edge l = l.numbers.items ++ l.edge-iterator ≡ links_in_order l.fn.reading l.digraph.edges l.order.list l.set
