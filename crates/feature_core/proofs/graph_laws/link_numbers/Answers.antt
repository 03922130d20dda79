use Rattle.feature_core.proofs.LinkNumbers.{numbers_within}
use Rattle.feature_core.proofs.graph_laws.link_numbers.Goals as goal

pub returns : goal.returns
returns c = numbers_within c.args.graph.now
