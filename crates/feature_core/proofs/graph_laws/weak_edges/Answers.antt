use Rattle.feature_core.proofs.OfferLemmas.{weak_whole}
use Rattle.feature_core.proofs.graph_laws.weak_edges.Goals as goal

pub returns : goal.returns
returns c = weak_whole c.args.graph.now c.facts.ensures
