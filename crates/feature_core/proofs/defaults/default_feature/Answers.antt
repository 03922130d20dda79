use Rattle.feature_core.proofs.DefaultLemmas.{default_found, default_missing}
use Rattle.feature_core.proofs.defaults.default_feature.Goals as goal

pub returns-in-Some : goal.returns-in-Some
returns-in-Some c = default_found c.args.numbers.graph.now c.args.metadata.package_ix c.in-Some.node c.in-Some.ensures

pub returns-in-None : goal.returns-in-None
returns-in-None c = default_missing c.args.numbers.graph.now c.args.metadata.package_ix c.base.result c.in-None.ensures c.base.ensures.node
