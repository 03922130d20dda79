use Rattle.std.proofs.Common.{◌≡◌}
use Rattle.guppy_support.specs.inner.Cursors.{members_left}
use Rattle.guppy_support.proofs.in_order.next_place.Given as goal

-- No member is between `from` and `place`.
abbrev pub invariant-loop-place : goal.invariant-loop-place
invariant-loop-place l = members_left l.reading l.list l.members l.from ≡ members_left l.reading l.list l.members l.place
