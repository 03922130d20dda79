use Rattle.std.proofs.Common.{◌≡◌, ◌<◌, ℕ, Some}
use Rattle.std.specs.Prelude.{slice_get}
use Rattle.digraphs.specs.Bits.{has}
use Rattle.walk_engine.specs.Walks.{Way, IsWay, starting}
use Rattle.walk_checks.specs.inner.Tests.{unmarked, Keeps}
use Rattle.walk_checks.proofs.exact.are_kept.Given as goal

abbrev pub invariant-loop-place : goal.invariant-loop-place
invariant-loop-place g l =
    let c = g.T.EdgeTable.content l.table in
    (k : ℕ) → k < l.place → (e : ℕ) → slice_get (starting c l.node) k ≡ Some e → (w : Way) → IsWay c e w → Keeps (unmarked l.refusals) (has l.listed) e w
