use Rattle.feature_graph.proofs.SplitLemmas.{filter_is_first, partition_is_split}
use Rattle.feature_graph.proofs.laws.partition_is_split.Goals as goal

pub returns-clause-split : goal.returns-clause-split
returns-clause-split c = partition_is_split c.order_lists_each.ensures c.members_come_once.ensures

pub returns-clause-first : goal.returns-clause-first
returns-clause-first c = filter_is_first
