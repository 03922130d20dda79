use Rattle.std.proofs.Common.{◌≡◌, ◌++◌}
use Rattle.std.specs.String.{string_bytes}
use Rattle.feature_graph.specs.Names.{names_of_members}
use Rattle.guppy_tool.specs.Answers.{listing}
use Rattle.guppy_tool.proofs.listing.list.Given as goal

-- The text so far and the lines of the members to come are the lines of all members.
abbrev pub invariant-loop-id : goal.invariant-loop-id
invariant-loop-id l = string_bytes l.text ++ listing l.id-iterator ≡ listing (names_of_members l.set.graph.tables l.set.members)
