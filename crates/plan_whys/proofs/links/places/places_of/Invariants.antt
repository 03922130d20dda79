use Rattle.std.proofs.Common.{take}
use Rattle.plan_whys.specs.links.inner.Places.{ArePlaces}
use Rattle.plan_whys.proofs.links.places.places_of.Given as goal

abbrev pub invariant-loop-index : goal.invariant-loop-index
invariant-loop-index l = ArePlaces l.size (take l.index l.numbers) l.places.items
