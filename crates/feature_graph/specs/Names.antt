-- The features and packages of a graph by their names, and the errors of look-ups by name.
use Rattle.std.specs.Prelude.{◌≡◌, ◌↔◌, ◌<◌, ℕ, List, Bool, Some, IsTrue, Contains, filter, map, slice_get, length}
use Rattle.std.specs.List.{enumerate_from, filter_map, list_any}
use Rattle.digraphs.specs.Bits.{has}
use Rattle.guppy_packages.specs.Rows.{Text}
use Rattle.guppy_packages.specs.Tables.{PackageTable, Tables, package_place}
use Rattle.feature_labels.specs.Names.{LabelName}
use Rattle.feature_labels.specs.Lists.{Ascends, ListValue, SameLabels}
use Rattle.feature_core.specs.Nodes.{nodes, labels_of}
use Rattle.feature_core.specs.Built.{NodeNamed}
use Rattle.feature_core.specs.Defaults.{IsDefault}
use Rattle.feature_core.specs.Pairs.{IsPairList}
use Rattle.feature_core.specs.Errors.{Refusal, unknown_package, unknown_feature, internal_error, no_memory}
use Rattle.feature_graph.specs.SetValues.{name_eq}

-- the graph has a feature of this name
abbrev pub HasFeature : Tables → Text × LabelName → Type 0
HasFeature t name = (n : ℕ) × NodeNamed t n name

-- true if the graph has a feature of this name
abbrev pub has_feature : Tables → Text × LabelName → Bool
has_feature t name = list_any (name_eq name) (nodes t)

-- the graph has a package with this id
abbrev pub HasPackage : Tables → Text → Type 0
HasPackage t id = (table : PackageTable) × Contains t.packages table × (table.id ≡ id)

-- the graph has all of these features
abbrev pub AreKnown : Tables → List (Text × LabelName) → Type 0
AreKnown t names = (k : ℕ) (name : Text × LabelName) → slice_get names k ≡ Some name → HasFeature t name

-- the name is the first of `names` that the graph lacks
pub record IsFirstUnknown (t : Tables) (names : List (Text × LabelName)) (name : Text × LabelName) : Type 0 where
  pub place : ℕ
  pub at : slice_get names place ≡ Some name
  pub unknown : ¬ HasFeature t name
  pub before : (k : ℕ) (other : Text × LabelName) → k < place → slice_get names k ≡ Some other → HasFeature t other

-- the error for a list of names: the first unknown one, or out of memory if all are known
abbrev pub RefusesNames : Tables → List (Text × LabelName) → Refusal → Type 0
RefusesNames t names (unknown_feature name) = IsFirstUnknown t names name
RefusesNames t names no_memory = AreKnown t names
RefusesNames t names (unknown_package id) = ⊥
RefusesNames t names (internal_error from to) = ⊥

-- the error of a look-up of a package that may allocate: the package is unknown, or out of memory
abbrev pub RefusesPackage : Tables → Text → Refusal → Type 0
RefusesPackage t id (unknown_package other) = (other ≡ id) × (¬ HasPackage t id)
RefusesPackage t id no_memory = HasPackage t id
RefusesPackage t id (unknown_feature name) = ⊥
RefusesPackage t id (internal_error from to) = ⊥

-- the error of a look-up of a feature: the feature is unknown
abbrev pub RefusesName : Tables → Text × LabelName → Refusal → Type 0
RefusesName t name refusal = (refusal ≡ unknown_feature name) × (¬ HasFeature t name)

-- the error of a look-up of a package and a feature in it: the package is unknown, or it lacks the feature
abbrev pub RefusesFeature : Tables → Text × LabelName → Refusal → Type 0
RefusesFeature t name (unknown_package id) = (id ≡ name.0) × (¬ HasPackage t name.0)
RefusesFeature t name (unknown_feature other) = (other ≡ name) × HasPackage t name.0 × (¬ HasFeature t name)
RefusesFeature t name no_memory = ⊥
RefusesFeature t name (internal_error from to) = ⊥

-- the node has one of these names
abbrev pub IsAmong : Tables → List (Text × LabelName) → ℕ → Type 0
IsAmong t names n = (k : ℕ) × (name : Text × LabelName) × (slice_get names k ≡ Some name) × NodeNamed t n name

-- the members are exactly the nodes of these names
pub record HoldsExactly (t : Tables) (members : List Bool) (names : List (Text × LabelName)) : Type 0 where
  pub size : length members ≡ length (nodes t)
  pub exact : (n : ℕ) → IsTrue (has members n) ↔ IsAmong t names n

-- the feature of this name is in the graph, and `answer` is whether it is a member
pub record TellsMember (t : Tables) (members : List Bool) (name : Text × LabelName) (answer : Bool) : Type 0 where
  pub known : HasFeature t name
  pub tells : (n : ℕ) → NodeNamed t n name → answer ≡ has members n

-- the feature of this name is in the graph, and `answer` is whether it is on by default
pub record TellsDefault (t : Tables) (name : Text × LabelName) (answer : Bool) : Type 0 where
  pub known : HasFeature t name
  pub tells : (n : ℕ) → NodeNamed t n name → IsTrue answer ↔ IsDefault t n

-- the list of all features of the package with this id, sorted and each once
pub record ListsPackage (t : Tables) (id : Text) (list : ListValue) : Type 0 where
  pub table : PackageTable
  pub is_package : Contains t.packages table
  pub named : table.id ≡ id
  pub of_graph : list.graph ≡ t
  pub at_place : package_place id t.packages ≡ Some list.number
  pub of_package : list.package_id ≡ id
  pub labels : SameLabels (labels_of table) list.labels
  pub ascends : Ascends list.labels

-- the number of node pairs with a candidate edge
pub record IsLinkCount (t : Tables) (count : ℕ) : Type 0 where
  pub pairs : List (ℕ × ℕ)
  pub is_list : IsPairList t pairs
  pub counted : count ≡ length pairs

-- the elements at the indices that pass
abbrev pub at_places : {X : Type 0} → (ℕ → Bool) → List X → List X
at_places passes xs = map (λ p. p.1) (filter (λ p. passes p.0) (enumerate_from 0 xs))

-- the names of the members, in the order of the nodes
abbrev pub names_of_members : Tables → List Bool → List (Text × LabelName)
names_of_members t members = at_places (has members) (nodes t)

-- the names of these nodes
abbrev pub names_of_nodes : Tables → List ℕ → List (Text × LabelName)
names_of_nodes t numbers = filter_map (λ n. slice_get (nodes t) n) numbers
