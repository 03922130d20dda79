use Rattle.std.proofs.Common.{take}
use Rattle.std.specs.List.{AllZip}
use Rattle.digraphs.specs.Bits.{has}
use Rattle.plan_whys.specs.inner.Nodes.{SpotAnswers}
use Rattle.plan_whys.proofs.nodes.why_spots.Given as goal

abbrev pub invariant-loop-at : goal.invariant-loop-at
invariant-loop-at l = AllZip (SpotAnswers l.on (has l.initials)) (take l.at-index l.spots) l.founds.items
