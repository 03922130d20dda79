use Rattle.feature_core.proofs.Present.{links_present}
use Rattle.feature_core.proofs.laws.links_are_present.Goals as goal

pub returns : goal.returns
returns c = links_present c.args.graph.now c.facts.ensures
