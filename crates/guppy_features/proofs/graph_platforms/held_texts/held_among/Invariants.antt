use Rattle.std.proofs.Common.{map, take}
use Rattle.guppy_features.specs.graph_platforms.HeldSpecs.{AreHeld}
use Rattle.guppy_features.proofs.graph_platforms.held_texts.held_among.Given as goal

abbrev pub invariant-loop-text : goal.invariant-loop-text
invariant-loop-text l = AreHeld l.target (map (λ t. t.now) (take l.text-index l.texts)) (map (λ t. t.now) l.held.items)
