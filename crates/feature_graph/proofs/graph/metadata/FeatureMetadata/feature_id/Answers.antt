use Rattle.feature_graph.specs.Views.{feature_name_of, feature_tables_of}
use Rattle.feature_graph.proofs.SameFeatures.{feature_is_there}
use Rattle.feature_graph.proofs.graph.metadata.FeatureMetadata.feature_id.Goals as goal

pub returns-clause-known : goal.returns-clause-known
returns-clause-known c = feature_is_there (feature_tables_of c.args.self.now) (feature_name_of c.args.self.now) c.args.self.now.stands
