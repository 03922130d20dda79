use Rattle.std.proofs.Common.{ℕ, ◌<◌}
use Rattle.digraphs.specs.Graph.{IsSound}
use Rattle.digraphs.proofs.digraph.first_fault.Given as goal

abbrev pub invariant-loop-place : goal.invariant-loop-place
invariant-loop-place l = (k : ℕ) → k < l.place → IsSound l.nodes l.edges k
