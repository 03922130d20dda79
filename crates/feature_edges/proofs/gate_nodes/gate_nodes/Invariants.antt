use Rattle.std.proofs.Common.{◌≡◌, ℕ, Some, length}
use Rattle.std.specs.Prelude.{slice_get}
use Rattle.feature_edges.specs.inner.GateNodes.{IsGateNode}
use Rattle.feature_edges.proofs.gate_nodes.gate_nodes.Given as goal

abbrev pub invariant-loop-ix : goal.invariant-loop-ix
invariant-loop-ix l = record {
  long : length l.nodes.items ≡ l.ix;
  each : (k d : ℕ) → slice_get l.nodes.items k ≡ Some d → IsGateNode l.numbers.graph.now k d;
}
