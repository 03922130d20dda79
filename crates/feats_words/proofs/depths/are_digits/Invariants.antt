use Rattle.std.proofs.Common.{◌≡◌, drop}
use Rattle.feats_words.specs.Depths.{are_digits}
use Rattle.feats_words.proofs.depths.are_digits.Given as goal

abbrev pub invariant-loop-byte : goal.invariant-loop-byte
invariant-loop-byte l = are_digits l.bytes ≡ are_digits (drop l.byte-index l.bytes)
