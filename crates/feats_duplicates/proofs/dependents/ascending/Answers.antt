use Rattle.std.proofs.Common.{◌∙◌, ap, nat_eq}
use Rattle.std.specs.List.{list_any}
use Rattle.feats_duplicates.proofs.Ascending.{once_same, once_sorted}
use Rattle.feats_duplicates.proofs.dependents.ascending.Goals as goal

pub returns-clause-sorted : goal.returns-clause-sorted
returns-clause-sorted c = once_sorted _ _ c.sort_unstable.ensures.sorted c.dedup.ensures.filtered

pub returns-clause-same : goal.returns-clause-same
returns-clause-same c = λ q. once_same _ _ _ c.sort_unstable.ensures.permutation c.dedup.ensures.filtered q ∙ ap (list_any (nat_eq q)) c.in_ok-list.ensures.items
