use Rattle.feats_tree.proofs.PairLemmas.{all_up}
use Rattle.feats_tree.proofs.trees.reversals.reversed.Goals as goal

pub returns-clause-sorted : goal.returns-clause-sorted
returns-clause-sorted c = all_up _ c.in_ok-sort.ensures.sorted
