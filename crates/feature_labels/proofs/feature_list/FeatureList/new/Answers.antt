use Rattle.std.proofs.Common.{◌≡◌, rules}
use Rattle.feature_labels.proofs.Made.{IsKept, kept_labels}
use Rattle.feature_labels.proofs.feature_list.FeatureList.new.Goals as goal

-- the vector contains the given labels, so the kept ones are those of `labels`
kept : (c : goal.After-dedup) → IsKept c.args.labels.now c.dedup.new.self.items
kept c =
    let copied : c.in_ok-labels.labels.items ≡ c.args.labels.now = search rules in
    rw (← copied) (kept_labels _ _ _ c.sort_unstable.ensures.permutation c.sort_unstable.ensures.sorted c.dedup.ensures.filtered)

pub invariant_of-result : goal.invariant_of-result
invariant_of-result c = (kept c).ascends

pub returns-clause-same : goal.returns-clause-same
returns-clause-same c = (kept c).same

pub returns-clause-ascends : goal.returns-clause-ascends
returns-clause-ascends c = (kept c).ascends
