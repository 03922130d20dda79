use Rattle.std.proofs.Common.{◌≡◌, ◌-◌, length}
use Rattle.guppy_support.specs.Views.{starting}
use Rattle.guppy_support.specs.inner.Cursors.{links_after}
use Rattle.guppy_support.proofs.links_in_order.next_link.Given as goal

-- No link is between `from` and `place`.
abbrev pub invariant-loop-edge : goal.invariant-loop-edge
invariant-loop-edge l = links_after l.reading l.digraph.edges l.members l.node l.from ≡ links_after l.reading l.digraph.edges l.members l.node l.place

abbrev pub decreases-loop-edge : goal.decreases-loop-edge
decreases-loop-edge l = length (starting l.reading l.digraph.edges l.node) - l.place
