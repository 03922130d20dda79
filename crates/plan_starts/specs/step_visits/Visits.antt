-- What the tables of rows reach from some features, if every offer is accepted.
use Rattle.std.specs.Prelude.{◌≡◌, ◌↔◌, ◌==◌, ◌&&◌, ℕ, Bool, false, List, Option, Ok, IsTrue, position}
use Rattle.std.specs.List.{list_any}
use Rattle.std.specs.Option.{option_map_or}
use Rattle.digraphs.specs.Bits.{has}
use Rattle.guppy_packages.specs.Graph.{tables_of}
use Rattle.guppy_packages.specs.Rows.{RowText}
use Rattle.guppy_packages.specs.Tables.{Tables}
use Rattle.guppy_packages.specs.declared.direction.DependencyDirection.TheVariants.{Forward}
use Rattle.feature_labels.specs.Names.{LabelName, label_of}
use Rattle.feature_labels.specs.Orders.{label_eq}
use Rattle.feature_labels.specs.declared.feature_label.FeatureLabel.{FeatureLabel}
use Rattle.walk_engine.specs.Laws.{every}
use Rattle.walk_engine.specs.Walks.{Least}
use Rattle.feature_core.specs.Built.{Built, IsBuilt}
use Rattle.feature_core.specs.Nodes.{node_places}
use Rattle.feature_core.specs.Offers.{content_of}

-- The tables, and whether each node was reached.
pub record Visit : Type 0 where
  pub tables : Tables
  pub members : List Bool

-- A package by its number, and a label.
abbrev pub is_place : ℕ × LabelName → ℕ × LabelName → Bool
is_place a b = (a.0 == b.0) && label_eq a.1 b.1

-- The node of a label of package `k`, if the package has it.
abbrev pub node_at : Tables → ℕ → LabelName → Option ℕ
node_at t k label = position (is_place (k, label)) (node_places t)

-- Whether a label of package `k` was reached; false, if the package doesn't have it.
abbrev pub reaches : Visit → ℕ → LabelName → Bool
reaches v k label = option_map_or (has v.members) (node_at v.tables k label) false

-- Whether `n` is the node, if there is one.
abbrev pub is_node : Option ℕ → ℕ → Bool
is_node node n = option_map_or (λ m. m == n) node false

-- Whether node `n` is one of the starts. Starts that the tables lack are no nodes.
abbrev pub is_start : Tables → List (ℕ × LabelName) → ℕ → Bool
is_start t starts n = list_any (λ s. is_node (node_at t s.0 s.1) n) starts

-- A place as a plain value: the number of its package, and its label.
abbrev pub place_view : ℕ × FeatureLabel → ℕ × LabelName
place_view s = (s.0, label_of s.1)

-- Node `n` is in the least set that has the starts, by any build of the tables: forward, with every offer accepted.
abbrev pub IsReached : Tables → List (ℕ × LabelName) → ℕ → Type 0
IsReached t starts n = (b : Built) → IsBuilt t b → Least (content_of Forward b) (is_start t starts) every n

-- A VISIT of tables: exactly the nodes that are reached.
pub record IsVisit (t : Tables) (starts : List (ℕ × LabelName)) (v : Visit) : Type 0 where
  pub tables : v.tables ≡ t
  pub members : (n : ℕ) → IsTrue (has v.members n) ↔ IsReached t starts n

-- A visit of the tables of rows.
pub record IsVisitOf (rows : List RowText) (starts : List (ℕ × LabelName)) (v : Visit) : Type 0 where
  pub rows_tables : Tables
  pub are_tables : tables_of rows ≡ Ok rows_tables
  pub is_visit : IsVisit rows_tables starts v
