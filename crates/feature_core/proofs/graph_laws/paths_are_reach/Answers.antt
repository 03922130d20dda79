use Rattle.feature_core.proofs.PathLemmas.{reach_forth, reach_back}
use Rattle.feature_core.proofs.graph_laws.paths_are_reach.Goals as goal

pub returns-clause-forward : goal.returns-clause-forward
returns-clause-forward c = reach_forth c.args.graph.now

pub returns-clause-reverse : goal.returns-clause-reverse
returns-clause-reverse c = reach_back c.args.graph.now
