use Rattle.std.proofs.Common.{◌≡◌, ◌*◌}
use Rattle.digraphs.specs.inner.Words.{bits_of}
use Rattle.digraphs.proofs.BitLemmas.{ticks}
use Rattle.digraphs.proofs.bit_set.IxBitSet.count.Given as goal

abbrev pub invariant-loop-word : goal.invariant-loop-word
invariant-loop-word l = l.count ≡ ticks (bits_of (l.word-index * 64) l.word-items)
