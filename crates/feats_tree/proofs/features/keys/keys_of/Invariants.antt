use Rattle.std.proofs.Common.{take}
use Rattle.feats_tree.specs.features.inner.Keys.{HasSpots}
use Rattle.feats_tree.proofs.features.keys.keys_of.Given as goal

abbrev pub invariant-loop-spot : goal.invariant-loop-spot
invariant-loop-spot l = HasSpots l.keys (take l.spot-index l.spots)
