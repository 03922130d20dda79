use Rattle.std.proofs.Common.{◌∙◌, sym, arith}
use Rattle.digraphs.proofs.BitLemmas.{length-members}
use Rattle.digraphs.proofs.bit_set.IxBitSet.ones.Goals as goal

pub invariant_of-result : goal.invariant_of-result
invariant_of-result c = (omega arith, c.count.ensures ∙ sym (length-members c.args.self.now))
