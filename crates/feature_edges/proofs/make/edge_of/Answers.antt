use Rattle.std.proofs.Common.{◌++◌}
use Rattle.indexmap.specs.IndexMap.{keys}
use Rattle.feature_edges.proofs.PairLemmas.{names_differ}
use Rattle.feature_edges.proofs.KeyEdges.{base_value, feature_value}
use Rattle.feature_edges.proofs.make.edge_of.Goals as goal

pub returns-in-FeatureToBase : goal.returns-in-FeatureToBase
returns-in-FeatureToBase c rest = base_value c.args.material.numbers.graph.now (names_differ c.args.material.numbers.graph.now c.facts.ensures) (keys c.args.table.now ++ rest) c.args.key c.requires.of_tables c.in-FeatureToBase.is

pub returns-in-NamedFeature : goal.returns-in-NamedFeature
returns-in-NamedFeature c rest = feature_value c.args.material.numbers.graph.now (names_differ c.args.material.numbers.graph.now c.facts.ensures) (keys c.args.table.now ++ rest) c.args.key c.requires.of_tables c.in-NamedFeature.is
