-- Features of a graph as values.
use Rattle.std.specs.Prelude.{ℕ}
use Rattle.guppy_packages.specs.Rows.{Text}
use Rattle.guppy_packages.specs.Tables.{Tables}
use Rattle.guppy_packages.specs.Metadata.{package_id_of, package_graph_of}
use Rattle.feature_labels.specs.Names.{LabelName, label_of}
use Rattle.feature_core.specs.Built.{Built}
use Rattle.feature_graph.specs.Values.{Graph}
use Rattle.feature_graph.specs.declared.graph.FeatureGraph.{FeatureGraph}
use Rattle.feature_graph.specs.declared.graph.metadata.FeatureMetadata.{FeatureMetadata}

abbrev pub graph_of : FeatureGraph → Graph
graph_of g = record { tables = g.graph.now; built = g.built.now }

abbrev pub tables_of_graph : FeatureGraph → Tables
tables_of_graph g = (graph_of g).tables

abbrev pub built_of : FeatureGraph → Built
built_of g = (graph_of g).built

abbrev pub stamp_of : FeatureGraph → ℕ
stamp_of g = (built_of g).stamp

-- the name of the feature
abbrev pub feature_name_of : FeatureMetadata → Text × LabelName
feature_name_of m = (package_id_of m.package, label_of m.label)

abbrev pub feature_tables_of : FeatureMetadata → Tables
feature_tables_of m = package_graph_of m.package
