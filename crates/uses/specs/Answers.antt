-- The results of the examples.
use Rattle.std.specs.Prelude.{◌≡◌, ◌⊎◌, ◌<◌, ◌+◌, ◌^◌, ℕ, Bool, true, false, not, List, Contains, length}
use Rattle.std.specs.List.{list_any}
use Rattle.std.specs.Option.{option_map_or}
use Rattle.std.specs.Str.{bytes_eq}
use Rattle.guppy_features.specs.digraphs.Bits.{has}
use Rattle.guppy_features.specs.guppy_packages.Platform.{Status, never_status, always_status, spec_status}
use Rattle.guppy_features.specs.guppy_packages.Rows.{Text}
use Rattle.guppy_features.specs.guppy_packages.Tables.{Tables}
use Rattle.guppy_features.specs.guppy_packages.declared.direction.DependencyDirection.{DependencyDirection}
use Rattle.guppy_features.specs.guppy_packages.declared.direction.DependencyDirection.TheVariants.{Forward}
use Rattle.guppy_features.specs.guppy_packages.declared.row.DependencyKind.{DependencyKind}
use Rattle.guppy_features.specs.feature_labels.Names.{LabelName}
use Rattle.guppy_features.specs.walk_engine.declared.walks.Half.{Half}
use Rattle.guppy_features.specs.walk_engine.Walks.{Agrees, Call, IsComplete, IsLegal}
use Rattle.guppy_features.specs.feature_core.Built.{NodeNamed}
use Rattle.guppy_features.specs.feature_core.Defaults.{IsDefault}
use Rattle.guppy_features.specs.feature_links.Facts.{is_dev_link}
use Rattle.guppy_features.specs.feature_core.Pairs.{Along, LeadsTo}
use Rattle.guppy_features.specs.feature_graph.Filters.{workspace_names}
use Rattle.guppy_features.specs.Accepted.{ListsLabel}
use Rattle.guppy_features.specs.feature_graph.LinkValues.{Link, facts_of, status_for}
use Rattle.guppy_features.specs.feature_graph.Values.{Graph, Query}
use Rattle.guppy_features.specs.feature_graph.Visits.{offered, query_content}

-- A path of edges in this direction, possibly empty, leads from the feature of this name to the node.
abbrev pub IsLedTo : Tables → DependencyDirection → Text × LabelName → ℕ → Type 0
IsLedTo t direction name n = (m : ℕ) × NodeNamed t m name × Along (LeadsTo t direction) m n

-- The node is a feature of a workspace package that is on by default there, or a named one in the list.
pub record IsSelected (t : Tables) (names : List Text) (n : ℕ) : Type 0 where
  pub name : Text × LabelName
  pub named : NodeNamed t n name
  pub in_workspace : Contains (workspace_names t) name
  pub chosen : IsDefault t n ⊎ ListsLabel names name.1

-- A path of edges, possibly empty, leads from such a feature to the node.
abbrev pub IsSelectedOrNeeded : Tables → List Text → ℕ → Type 0
IsSelectedOrNeeded t names n = (m : ℕ) × IsSelected t names m × Along (LeadsTo t Forward) m n

-- Whether a status holds on the platform of this spec.
abbrev pub holds_on : Text → Status → Bool
holds_on spec never_status = false
holds_on spec always_status = true
holds_on spec (spec_status specs) = list_any (λ s. bytes_eq s spec) specs

-- Whether the link is for this kind of dependency on the platform of this spec.
abbrev pub is_on_platform : Text → DependencyKind → Link → Bool
is_on_platform spec kind l = option_map_or (λ facts. holds_on spec (status_for kind facts)) (facts_of l) false

-- Whether the link is not only for development.
abbrev pub is_shipped : Link → Bool
is_shipped l = option_map_or (λ facts. not (is_dev_link facts)) (facts_of l) false

-- A test of links as a test of the offers of a graph.
abbrev pub by_links : (Link → Bool) → Graph → ℕ → Half → Bool
by_links test g e h = test (offered g e h)

-- the count grew by as many, where it can hold that
abbrev pub CountsOn : ℕ → ℕ → ℕ → Type 0
CountsOn old more new = old + more < 2 ^ 64 → new ≡ old + more

-- each offer of a complete legal run was answered by the test of its link, and counted
pub record CountsRun (test : Link → Bool) (q : Query) (old new : ℕ) : Type 0 where
  pub run : List Call
  pub legal : IsLegal (query_content q) (has q.initials) run
  pub complete : IsComplete (query_content q) (has q.initials) run
  pub answers : Agrees (by_links test q.graph) run
  pub count : CountsOn old (length run) new

-- each feature of the workspace's packages was asked for once, and counted
abbrev pub CountsWorkspace : Graph → ℕ → ℕ → Type 0
CountsWorkspace g old new = CountsOn old (length (workspace_names g.tables)) new
