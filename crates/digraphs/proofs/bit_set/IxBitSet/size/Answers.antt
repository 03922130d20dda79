use Rattle.std.proofs.Common.{length, ap, sym, ◌∙◌}
use Rattle.digraphs.proofs.BitLemmas.{length-bits_of}
use Rattle.digraphs.proofs.bit_set.IxBitSet.size.Goals as goal

pub returns : goal.returns
returns c = sym (length-bits_of c.self.inside.size c.self.inside.words.items) ∙ ap length c.self.view_is
