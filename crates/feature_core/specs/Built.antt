-- The data built from tables.
use Rattle.std.specs.Prelude.{◌≡◌, ◌↔◌, ℕ, List, Bool, Some, Contains, length, map, slice_get}
use Rattle.digraphs.specs.Graph.{Graph}
use Rattle.feature_edges.specs.guppy_packages.Rows.{Text}
use Rattle.feature_edges.specs.guppy_packages.Tables.{PackageTable, Tables}
use Rattle.feature_edges.specs.feature_labels.Names.{LabelName}
use Rattle.feature_edges.specs.Nodes.{labels_of, nodes, first_nodes, node_packages}
pub use Rattle.feature_edges.specs.EdgeEnds.{built_edges, end_of, pairs_of}
pub use Rattle.feature_edges.specs.Edges.{ends_of}
use Rattle.feature_edges.specs.feature_links.Facts.{EdgeFacts}
use Rattle.feature_edges.specs.Edges.{AreBuilt}
use Rattle.feature_core.specs.Defaults.{AreDefaults}
use Rattle.feature_edges.specs.Pairs.{IsPairList}
use Rattle.feature_edges.specs.Warnings.{Warning, warnings}

-- The caller's stamp, the first node of each package, and the package of each node. The edges are sorted by source and then by
-- target. `weak` has the package link and the gate of each weak link, `defaults` whether each node is on by default.
pub record Built : Type 0 where
  pub stamp : ℕ
  pub firsts : List ℕ
  pub packages : List ℕ
  pub edges : List (ℕ × ℕ × EdgeFacts)
  pub weak : List (ℕ × ℕ)
  pub warnings : List Warning
  pub defaults : List Bool

-- `b` is built from the tables `t`.
pub record IsBuilt (t : Tables) (b : Built) : Type 0 where
  pub firsts : b.firsts ≡ first_nodes t
  pub packages : b.packages ≡ node_packages t
  pub pairs : IsPairList t (ends_of b.edges)
  pub edges : AreBuilt t b.edges b.weak
  pub warnings : b.warnings ≡ warnings t
  pub defaults : AreDefaults t b.defaults

-- `a` and `b` are equal in each part.
abbrev pub AreAlike : Built → Built → Type 0
AreAlike a b = (a.stamp ≡ b.stamp) × (a.firsts ≡ b.firsts) × (a.packages ≡ b.packages) × (a.edges ≡ b.edges) × (a.weak ≡ b.weak) × (a.warnings ≡ b.warnings) × (a.defaults ≡ b.defaults)

-- Node `n` has this name: its package's id and its label.
abbrev pub NodeNamed : Tables → ℕ → Text × LabelName → Type 0
NodeNamed t n name = slice_get (nodes t) n ≡ Some name

-- The names of nodes are exactly the labels of the packages, each with its package's id.
abbrev pub NamesAreLabels : Tables → Type 0
NamesAreLabels t = (name : Text × LabelName) → ((n : ℕ) × NodeNamed t n name) ↔ ((table : PackageTable) × Contains t.packages table × (table.id ≡ name.0) × Contains (labels_of table) name.1)

-- The digraph of the nodes.
abbrev pub digraph_of : Built → Graph
digraph_of b = record { nodes = length b.packages; edges = map end_of b.edges }
