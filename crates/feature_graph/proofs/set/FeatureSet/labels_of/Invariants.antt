use Rattle.std.specs.Prelude.{◌↔◌, Contains, map}
use Rattle.feature_labels.specs.Names.{LabelName, label_of}
use Rattle.feature_graph.specs.inner.MemberLabels.{HasMemberBelow}
use Rattle.feature_graph.proofs.set.FeatureSet.labels_of.Given as goal

abbrev pub invariant-nodes : goal.invariant-nodes
invariant-nodes l = (label : LabelName) → Contains (map label_of l.labels.items) label ↔ HasMemberBelow l.self.graph.tables l.self.members l.package_ix l.node label
