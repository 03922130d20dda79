use Rattle.std.proofs.Common.{◌+◌, ◌/◌}
use Rattle.digraphs.proofs.BitLemmas.{empty_are_words, empty_view}
use Rattle.digraphs.proofs.bit_set.IxBitSet.empty.Goals as goal

pub invariant_of-result : goal.invariant_of-result
invariant_of-result c = rw c.in_ok-words.ensures (empty_are_words c.args.size c.ranges.size.fits)

pub returns : goal.returns
returns c = empty_view c.args.size (c.args.size / 64 + 1) _ c.in_ok-words.ensures
