use Rattle.std.proofs.Common.{of_calls, rules}
use Rattle.std.specs.Prelude.{nat_lt}
use Rattle.std.proofs.lemmas.Fn.{always_returns_same}
use Rattle.feature_edges.proofs.SplitKeys.{parted, front_below, back_above}
use Rattle.feature_edges.proofs.candidate.place_from.Goals as goal

pub returns-clause-front : goal.returns-clause-front
returns-clause-front c =
    let keys = c.args.keys.now in
    let end = c.args.end in
    front_below keys end c.requires c.partition_point.result c.partition_point.ensures.bound (c.partition_point.ensures.partitioned (λ y. nat_lt y.from end) (always_returns_same _ _ _ (λ a r f k. search (rules, of_calls))) (parted keys end c.requires))

pub returns-clause-back : goal.returns-clause-back
returns-clause-back c =
    let keys = c.args.keys.now in
    let end = c.args.end in
    back_above keys end c.requires c.partition_point.result (c.partition_point.ensures.partitioned (λ y. nat_lt y.from end) (always_returns_same _ _ _ (λ a r f k. search (rules, of_calls))) (parted keys end c.requires))
