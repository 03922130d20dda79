use Rattle.std.proofs.Common.{◌≡◌, map, take}
use Rattle.feature_edges.proofs.make.places_of.Given as goal

abbrev pub invariant-loop-key : goal.invariant-loop-key
invariant-loop-key l = l.places.items ≡ map (λ y. y.place) (take l.key-index l.keys)
