use Rattle.std.proofs.Common.{◌≡◌, ◌≤◌, ◌<◌, ◌*◌, ℕ}
use Rattle.digraphs.specs.inner.Words.{word_bit}
use Rattle.digraphs.proofs.bit_set.IxBitSet.next_from.Given as goal

abbrev pub invariant-loop-place : goal.invariant-loop-place
invariant-loop-place l = (j : ℕ) → l.from ≤ j → j < l.place * 64 → word_bit l.self-inside.words.items j ≡ 0
