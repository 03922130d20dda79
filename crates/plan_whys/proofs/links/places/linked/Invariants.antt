use Rattle.std.proofs.Common.{◌≡◌, ◌++◌, ℕ, drop, flat_map}
use Rattle.plan_whys.specs.links.inner.Places.{both, place_in}
use Rattle.plan_whys.proofs.links.places.linked.Given as goal

abbrev pub invariant-loop-pair : goal.invariant-loop-pair
invariant-loop-pair l =
    let f = λ (p : ℕ × ℕ). both (place_in l.places p.0) (place_in l.places p.1) in
    flat_map f l.pairs ≡ l.links.items ++ flat_map f (drop l.pair-index l.pairs)
