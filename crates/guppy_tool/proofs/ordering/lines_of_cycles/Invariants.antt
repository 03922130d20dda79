use Rattle.std.proofs.Common.{◌≡◌, ◌++◌}
use Rattle.std.specs.String.{string_bytes}
use Rattle.feature_graph.specs.Ordered.{AtOrder}
use Rattle.feature_graph.specs.Tied.{cycle_names}
use Rattle.feature_graph.specs.Views.{graph_of}
use Rattle.guppy_tool.specs.Answers.{before_group, groups}
use Rattle.guppy_tool.proofs.OrderingLemmas.{groups_after}
use Rattle.guppy_tool.proofs.ordering.lines_of_cycles.Given as goal

-- The text so far, then an empty line if one is due, then the cycles to come are the text of all cycles.
abbrev pub invariant-loop-cycle : goal.invariant-loop-cycle
invariant-loop-cycle l = AtOrder (graph_of l.fn.graph) (λ o. string_bytes l.text ++ groups_after (before_group l.is_first) l.cycle-iterator ≡ groups (cycle_names (graph_of l.fn.graph) o))
