-- A set in the order of its graph: its members, the edges and links between them, its roots.
use Rattle.std.specs.Prelude.{ℕ, List, Option, None, map, filter, slice_get}
use Rattle.std.specs.List.{filter_map}
use Rattle.std.specs.Borrow.{Bor}
use Rattle.std.specs.Option.{option_map, option_map_or}
use Rattle.digraphs.specs.declared.digraph.Edge.{Edge}
use Rattle.digraph_orders.specs.Sequences.{Sequence, IsOrderOf}
use Rattle.guppy_support.specs.Views.{in_order, links_in_order, roots_in_order}
use Rattle.guppy_packages.specs.PackageSets.{reading_of}
use Rattle.guppy_packages.specs.Rows.{Text}
use Rattle.guppy_packages.specs.Tables.{Tables}
use Rattle.guppy_packages.specs.declared.direction.DependencyDirection.{DependencyDirection}
use Rattle.walk_engine.specs.declared.walks.Half.TheVariants.{Full}
use Rattle.feature_labels.specs.Names.{LabelName, id_of}
use Rattle.feature_labels.specs.declared.feature_id.FeatureId.{FeatureId}
use Rattle.feature_core.specs.Built.{digraph_of}
use Rattle.feature_links.specs.Facts.{EdgeFacts}
use Rattle.feature_core.specs.Nodes.{nodes}
use Rattle.feature_links.specs.Values.{edge_facts}
use Rattle.feature_links.specs.declared.edge.FeatureEdge.{FeatureEdge}
use Rattle.feature_graph.specs.LinkValues.{Link, has_facts}
use Rattle.feature_graph.specs.Names.{names_of_nodes}
use Rattle.feature_graph.specs.Values.{Graph, Set}
use Rattle.feature_graph.specs.Views.{feature_name_of, feature_tables_of}
use Rattle.feature_graph.specs.Visits.{offered}
use Rattle.feature_graph.specs.declared.graph.metadata.FeatureMetadata.{FeatureMetadata}

-- `P` holds for the order of the graph, with its components
abbrev pub AtOrder : Graph → (Sequence → Type 0) → Type 0
AtOrder g P = (o : Sequence) × IsOrderOf (digraph_of g.built) o × P o

-- the edges between the nodes of the graph
abbrev pub edges_of : Graph → List Edge
edges_of g = (digraph_of g.built).edges

-- features by their names, each with its tables
abbrev pub features_named : Tables → List (Text × LabelName) → List (Tables × (Text × LabelName))
features_named t names = map (λ name. (t, name)) names

abbrev pub feature_of : FeatureMetadata → Tables × (Text × LabelName)
feature_of m = (feature_tables_of m, feature_name_of m)

-- the nodes of the members, in order
abbrev pub ordered_nodes : DependencyDirection → Set → Sequence → List ℕ
ordered_nodes direction s o = in_order (reading_of direction) o.list s.members

-- the names of the members, in order
abbrev pub ordered_names : DependencyDirection → Set → Sequence → List (Text × LabelName)
ordered_names direction s o = names_of_nodes s.graph.tables (ordered_nodes direction s o)

-- the numbers of the edges between members, in order
abbrev pub ordered_edges : DependencyDirection → Set → Sequence → List ℕ
ordered_edges direction s o = links_in_order (reading_of direction) (edges_of s.graph) o.list s.members

-- the names of the roots, in order
abbrev pub root_names : DependencyDirection → Set → Sequence → List (Text × LabelName)
root_names direction s o = names_of_nodes s.graph.tables (roots_in_order (reading_of direction) (edges_of s.graph) o s.members)

-- the names of an edge's two features, and the facts of the edge
abbrev pub edge_said : Graph → ℕ → Option ((Text × LabelName) × (Text × LabelName) × EdgeFacts)
edge_said g k =
    option_map_or
    (λ e. option_map_or (λ from. option_map (λ to. (from, to, e.2)) (slice_get (nodes g.tables) e.1)) (slice_get (nodes g.tables) e.0) None)
    (slice_get g.built.edges k) None

abbrev pub edges_said : Graph → List ℕ → List ((Text × LabelName) × (Text × LabelName) × EdgeFacts)
edges_said g numbers = filter_map (edge_said g) numbers

abbrev pub said_by : FeatureId × FeatureId × Bor FeatureEdge → (Text × LabelName) × (Text × LabelName) × EdgeFacts
said_by p = (id_of p.0, id_of p.1, edge_facts p.2.now)

-- the full links of the conditional edges among these
abbrev pub full_links : Graph → List ℕ → List Link
full_links g numbers = map (λ k. offered g k Full) (filter (λ k. has_facts (offered g k Full)) numbers)
