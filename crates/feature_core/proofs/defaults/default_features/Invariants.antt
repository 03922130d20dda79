use Rattle.std.proofs.Common.{◌≡◌, ◌↔◌, ℕ, IsTrue, length}
use Rattle.digraphs.specs.Bits.{has}
use Rattle.feature_core.proofs.DefaultLemmas.{Starts}
use Rattle.feature_core.proofs.defaults.default_features.Given as goal

abbrev pub invariant-loop-ix : goal.invariant-loop-ix
invariant-loop-ix l = record {
  size : length l.set ≡ l.count;
  starts : (n : ℕ) → IsTrue (has l.set n) ↔ Starts l.numbers.graph.now l.ix n;
}
