use Rattle.std.proofs.Common.{ℕ, ◌-◌, ◌<◌, ◌≤◌, length}
use Rattle.digraphs.proofs.FaultLemmas.{IsBelow, IsAbove}
use Rattle.digraphs.proofs.digraph.Digraph.edge_between.Given as goal

abbrev pub invariant-loop-low : goal.invariant-loop-low
invariant-loop-low l =
    record {
      bounds : l.low ≤ l.high;
      within : l.high ≤ length l.self-inside.edges;
      below : (k : ℕ) → k < l.low → IsBelow l.self-inside.edges k l.from l.to;
      above : (k : ℕ) → l.high ≤ k → k < length l.self-inside.edges → IsAbove l.self-inside.edges k l.from l.to;
    }

abbrev pub decreases-loop-low : goal.decreases-loop-low
decreases-loop-low l = l.high - l.low
