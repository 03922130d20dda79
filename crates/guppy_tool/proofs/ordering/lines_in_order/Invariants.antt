use Rattle.std.proofs.Common.{◌≡◌, ◌++◌}
use Rattle.std.specs.String.{string_bytes}
use Rattle.feature_graph.specs.Ordered.{AtOrder, ordered_names}
use Rattle.guppy_tool.specs.Answers.{listing}
use Rattle.guppy_tool.proofs.ordering.lines_in_order.Given as goal

-- The text so far and the lines of the features to come are the lines of all features in order.
abbrev pub invariant-loop-id : goal.invariant-loop-id
invariant-loop-id l = AtOrder l.set.graph (λ o. string_bytes l.text ++ listing l.id-iterator ≡ listing (ordered_names l.fn.direction l.set o))
