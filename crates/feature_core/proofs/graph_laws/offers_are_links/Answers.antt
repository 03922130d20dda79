use Rattle.feature_core.proofs.OfferLemmas.{offer_link}
use Rattle.feature_core.proofs.graph_laws.offers_are_links.Goals as goal

pub returns : goal.returns
returns c = offer_link c.args.graph.now c.facts.ensures
