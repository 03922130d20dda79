use Rattle.std.proofs.Common.{ℕ}
use Rattle.feature_edges.proofs.SameLists.{AreSame}
use Rattle.feature_core.proofs.equality.same_pairs.Given as goal

abbrev pub invariant-loop-ix : goal.invariant-loop-ix
invariant-loop-ix l = AreSame {Y = ℕ × ℕ} (λ e. (e.from, e.to)) l.a.edges l.b.edges l.ix
