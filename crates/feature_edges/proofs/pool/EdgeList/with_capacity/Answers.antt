use Rattle.feature_edges.proofs.PoolLemmas.{none_within, none_there}
use Rattle.feature_edges.proofs.pool.EdgeList.with_capacity.Goals as goal

pub invariant_of-result : goal.invariant_of-result
invariant_of-result c = (none_within _ _ c.in_ok-places.ensures.items, c.in_ok-pool.ensures)

pub returns : goal.returns
returns c = none_there _ _ c.in_ok-places.ensures.items
