use Rattle.feature_edges.proofs.Ranks.{same_rank, one_edge}
use Rattle.feature_core.proofs.laws.one_candidate.Goals as goal

pub returns-clause-of_rank : goal.returns-clause-of_rank
returns-clause-of_rank c = same_rank c.args.graph.now c.facts.ensures

pub returns-clause-of_pair : goal.returns-clause-of_pair
returns-clause-of_pair c = one_edge c.args.graph.now c.facts.ensures
