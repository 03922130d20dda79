use Rattle.std.specs.Prelude.{not}
use Rattle.feature_links.specs.Facts.{has_present_link}
use Rattle.feature_edges.proofs.ListSteps.{IsSought}
use Rattle.feature_edges.proofs.pool.first_absent.Given as goal

abbrev pub invariant-loop-number : goal.invariant-loop-number
invariant-loop-number l = IsSought (λ f. not (has_present_link f)) l.edges l.number
