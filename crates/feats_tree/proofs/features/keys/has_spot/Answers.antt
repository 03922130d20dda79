use Rattle.std.proofs.Common.{◌∙◌}
use Rattle.feats_tree.proofs.KeyLemmas.{found}
use Rattle.feats_tree.proofs.features.keys.has_spot.Goals as goal

pub returns : goal.returns
returns c = c.contains.ensures ∙ found c.args.keys.now c.args.spot c.key_of.result c.key_of.ensures
