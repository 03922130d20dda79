use Rattle.feature_core.proofs.Determined.{one_content}
use Rattle.feature_core.proofs.graph_laws.one_content.Goals as goal

pub returns : goal.returns
returns c = one_content c.args.graph.now c.facts.ensures
