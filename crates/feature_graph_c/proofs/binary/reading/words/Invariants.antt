use Rattle.std.proofs.Common.{◌≡◌, ◌++◌, length}
use Rattle.std.specs.Option.{option_map}
use Rattle.feature_graph_c.specs.binary.Words as spec
use Rattle.feature_graph_c.proofs.binary.reading.words.Given as goal

-- The numbers so far and those of the bytes to come are all numbers.
abbrev pub invariant-loop-rest : goal.invariant-loop-rest
invariant-loop-rest l = option_map (λ ws. l.words.items ++ ws) (spec.words l.rest) ≡ spec.words l.bytes

abbrev pub decreases-loop-rest : goal.decreases-loop-rest
decreases-loop-rest l = length l.rest
