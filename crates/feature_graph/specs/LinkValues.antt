-- Links as values, independent of where they lie in memory, and the facts of their edges.
use Rattle.std.specs.Prelude.{ℕ, Bool, List, Option, None, slice_get, map}
use Rattle.std.specs.Option.{is_some, option_map_or}
use Rattle.guppy_packages.specs.Platform.{Status}
use Rattle.guppy_packages.specs.Rows.{Text}
use Rattle.guppy_packages.specs.Tables.{Tables}
use Rattle.guppy_packages.specs.declared.direction.DependencyDirection.{DependencyDirection}
use Rattle.guppy_packages.specs.declared.direction.DependencyDirection.TheVariants.{Forward, Reverse}
use Rattle.guppy_packages.specs.declared.row.DependencyKind.{DependencyKind}
use Rattle.guppy_packages.specs.declared.row.DependencyKind.TheVariants.{Normal, Build, Development}
use Rattle.feature_labels.specs.Names.{LabelName}
use Rattle.walk_engine.specs.declared.walks.Half.{Half}
use Rattle.feature_links.specs.Facts.{EdgeFacts, link_at}
use Rattle.feature_links.specs.Links.{LinkFacts}
use Rattle.feature_core.specs.Nodes.{nodes}
use Rattle.feature_graph.specs.Values.{Graph}

-- the full link of an edge of the graph, or a half of the edge
pub record Link : Type 0 where
  pub graph : Graph
  pub edge : ℕ
  pub half : Half

-- the edge of the link: its two nodes, and its facts
abbrev pub edge_of : Link → Option (ℕ × ℕ × EdgeFacts)
edge_of l = slice_get l.graph.built.edges l.edge

-- the facts of the link: the declarations that it covers, its status for each kind, its package links
abbrev pub facts_of : Link → Option LinkFacts
facts_of l = option_map_or (λ e. link_at e.2 l.half) (edge_of l) None

-- the graph has the edge, and the edge has the link
abbrev pub has_facts : Link → Bool
has_facts l = is_some (facts_of l)

-- the name of the feature that the link leads from
abbrev pub from_name : Link → Option (Text × LabelName)
from_name l = option_map_or (λ e. slice_get (nodes l.graph.tables) e.0) (edge_of l) None

abbrev pub to_name : Link → Option (Text × LabelName)
to_name l = option_map_or (λ e. slice_get (nodes l.graph.tables) e.1) (edge_of l) None

-- the name of the feature that the link starts at, in a direction
abbrev pub start_name : DependencyDirection → Link → Option (Text × LabelName)
start_name Forward l = from_name l
start_name Reverse l = to_name l

-- the platform status of the covered declarations of a kind
abbrev pub status_for : DependencyKind → LinkFacts → Status
status_for Normal facts = facts.normal
status_for Build facts = facts.build
status_for Development facts = facts.dev

-- package links, each as the tables and its number in them
abbrev pub numbered_links : Tables → List ℕ → List (Tables × ℕ)
numbered_links t numbers = map (λ k. (t, k)) numbers
