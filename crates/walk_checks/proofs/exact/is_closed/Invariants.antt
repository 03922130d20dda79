use Rattle.std.proofs.Common.{ℕ, take}
use Rattle.std.specs.Prelude.{IsTrue}
use Rattle.digraphs.specs.Bits.{has}
use Rattle.walk_engine.specs.Walks.{Way, IsWay, is_in}
use Rattle.walk_engine.specs.Explanations.{nodes_of}
use Rattle.walk_checks.specs.inner.Tests.{unmarked, Keeps}
use Rattle.walk_checks.proofs.exact.is_closed.Given as goal

abbrev pub invariant-loop-step : goal.invariant-loop-step
invariant-loop-step g l =
    (e : ℕ) (w : Way) → IsWay (g.T.EdgeTable.content l.table) e w → IsTrue (is_in (nodes_of (take l.step-index l.steps)) w.start) → Keeps (unmarked l.refusals) (has l.listed) e w
