use Rattle.feats_tree.specs.features.inner.Keys.{key_of}
use Rattle.feats_tree.proofs.KeyLemmas.{one_more}
use Rattle.feats_tree.proofs.features.keys.insert.Goals as goal

pub returns : goal.returns
returns c = λ s. one_more c.args.spot s c.key_of.result c.args.keys.now.keys c.insert.new.self.keys c.key_of.ensures (c.in_ok-_is_new.ensures.updates.0 (key_of s))
