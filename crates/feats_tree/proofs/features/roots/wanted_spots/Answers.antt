use Rattle.std.proofs.Common.{◌∙◌}
use Rattle.feats_tree.proofs.KeyLemmas.{all_found}
use Rattle.feats_tree.proofs.features.roots.wanted_spots.Goals as goal

pub returns : goal.returns
returns c = c.in_ok-roots.ensures ∙ all_found c.in_ok-keys.keys c.args.wanted.now c.args.spots.now c.in_ok-keys.ensures
