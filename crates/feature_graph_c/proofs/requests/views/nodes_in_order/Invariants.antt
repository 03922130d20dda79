use Rattle.std.proofs.Common.{◌≡◌, ◌++◌}
use Rattle.guppy_support.specs.Views.{in_order}
use Rattle.feature_graph_c.proofs.requests.views.nodes_in_order.Given as goal

-- The nodes so far and those to come are all members in order.
abbrev pub invariant-loop-node : goal.invariant-loop-node
invariant-loop-node l = l.numbers.items ++ l.node-iterator ≡ in_order l.fn.reading l.order.list l.set
