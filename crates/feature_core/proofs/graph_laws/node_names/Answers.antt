use Rattle.feature_core.proofs.OfferNames.{names_are_labels}
use Rattle.feature_core.proofs.graph_laws.node_names.Goals as goal

pub returns : goal.returns
returns c = names_are_labels c.args.graph.now
