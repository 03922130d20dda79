use Rattle.digraphs.proofs.BitLemmas.{full_are_words, full_view}
use Rattle.digraphs.proofs.bit_set.IxBitSet.full.Goals as goal

pub invariant_of-result : goal.invariant_of-result
invariant_of-result c = rw c.in_ok-words.ensures (full_are_words c.args.size c.ranges.size.fits)

pub returns : goal.returns
returns c = rw c.in_ok-words.ensures (full_view c.args.size)
