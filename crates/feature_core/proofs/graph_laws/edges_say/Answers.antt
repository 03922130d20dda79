use Rattle.feature_core.proofs.OfferLemmas.{says, says_same, edge_once}
use Rattle.feature_core.proofs.graph_laws.edges_say.Goals as goal

pub returns-clause-says : goal.returns-clause-says
returns-clause-says c = says c.args.graph.now

pub returns-clause-same : goal.returns-clause-same
returns-clause-same c = says_same c.args.graph.now c.facts.ensures

pub returns-clause-once : goal.returns-clause-once
returns-clause-once c = edge_once c.args.graph.now
