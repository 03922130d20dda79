use Rattle.feature_core.proofs.OfferNames.{one_offer, one_named}
use Rattle.feature_core.proofs.graph_laws.link_names_offer.Goals as goal

pub returns-clause-offers : goal.returns-clause-offers
returns-clause-offers c = one_offer c.args.graph.now

pub returns-clause-nodes : goal.returns-clause-nodes
returns-clause-nodes c = one_named c.args.graph.now c.facts.ensures
