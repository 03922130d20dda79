use Rattle.std.proofs.Common.{◌≡◌, ℕ, Some, length}
use Rattle.std.specs.Prelude.{slice_get}
use Rattle.feature_edges.specs.DefaultNodes.{IsDefaultNode}
use Rattle.feature_edges.proofs.default_nodes.default_nodes.Given as goal

abbrev pub invariant-loop-ix : goal.invariant-loop-ix
invariant-loop-ix l = record {
  long : length l.nodes.items ≡ l.ix;
  each : (p d : ℕ) → slice_get l.nodes.items p ≡ Some d → IsDefaultNode l.numbers.graph.now p d;
}
