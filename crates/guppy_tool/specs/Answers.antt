-- The output of each command over the tables of a row file.
use Rattle.std.specs.Prelude.{◌≡◌, ◌↔◌, ◌++◌, ℕ, List, ◌∷◌, [], Bool, true, false, Result, Ok, Err, IsTrue, Contains, codes, flat_map, reverse}
use Rattle.guppy_packages.specs.Rows.{Text}
use Rattle.guppy_packages.specs.Tables.{PackageTable, Tables}
use Rattle.guppy_packages.specs.declared.direction.DependencyDirection.{DependencyDirection}
use Rattle.guppy_packages.specs.declared.direction.DependencyDirection.TheVariants.{Forward, Reverse}
use Rattle.guppy_packages.specs.declared.row.DependencyKind.{DependencyKind}
use Rattle.feature_labels.specs.Names.{LabelName, id_text}
use Rattle.feature_labels.specs.declared.link_declarations.LinkDeclarations.{LinkDeclarations}
use Rattle.feature_labels.specs.declared.link_declarations.LinkDeclarations.TheVariants.{Unsplit, Required, Optional}
use Rattle.feature_labels.specs.Lists.{Ascends, SameLabels, joined}
use Rattle.feature_core.specs.Nodes.{nodes, labels_of}
use Rattle.feature_core.specs.Errors as graph
use Rattle.digraphs.specs.Bits.{has}
use Rattle.digraph_orders.specs.Sequences.{Sequence, IsOrderOf}
use Rattle.feature_graph.specs.Names.{AreKnown, HasPackage, IsFirstUnknown, HoldsExactly, at_places, names_of_nodes}
use Rattle.feature_graph.specs.Explained.{AreTold}
use Rattle.guppy_features.specs.Platforms.{platform_offers}
use Rattle.feature_graph.specs.Tied.{cycle_names}
use Rattle.feature_graph.specs.Told.{ReasonName, initial, edge, link}
use Rattle.feature_graph.specs.Values.{Graph}
use Rattle.feature_core.specs.Pairs.{Reach}
use Rattle.feature_core.specs.Built.{Built, IsBuilt, digraph_of}
use Rattle.feature_core.specs.Offers.{content_of}
use Rattle.feature_core.specs.Warnings.{Warning, missing_feature, self_loop, warnings}
use Rattle.walk_engine.specs.declared.walks.Step.{Step}
use Rattle.walk_engine.specs.Explanations.{IsExplanation, nodes_of}
use Rattle.walk_engine.specs.Walks.{Least, is_in}
use Rattle.walk_engine.specs.Laws.{every}
use Rattle.guppy_tool.specs.Faults.{Refusal, unknown_feature, unknown_package, out_of_memory, IfNotMemory}
use Rattle.guppy_tool.specs.Words.{CommandText, resolve, visit, ordered, all_cycles, list_of, all_warnings, build}

-- the ids, each with a line feed after it
abbrev pub listing : List (Text × LabelName) → Text
listing ids = flat_map (λ id. id_text id ++ 10 ∷ []) ids

-- The output of `resolve`: every id names a feature, and the text lists the features reachable from them, by node
-- number.
pub record Resolves (t : Tables) (direction : DependencyDirection) (ids : List (Text × LabelName)) (text : Text) : Type 0 where
  pub known : AreKnown t ids
  pub initials : List Bool
  pub given : HoldsExactly t initials ids
  pub members : List Bool
  pub reached : (n : ℕ) → IsTrue (has members n) ↔ Reach t direction (has initials) n
  pub lines : text ≡ listing (at_places (has members) (nodes t))

-- The output of `visit`: every id names a feature, and the text lists the least set that contains them, by node number.
-- The set is closed under all offers.
pub record Visits (t : Tables) (direction : DependencyDirection) (ids : List (Text × LabelName)) (text : Text) : Type 0 where
  pub known : AreKnown t ids
  pub initials : List Bool
  pub given : HoldsExactly t initials ids
  pub built : Built
  pub is_built : IsBuilt t built
  pub members : List Bool
  pub least : (b : Built) → IsBuilt t b → (n : ℕ) → IsTrue (has members n) ↔ Least (content_of direction b) (has initials) every n
  pub lines : text ≡ listing (at_places (has members) (nodes t))

-- the order of the nodes of `t`: the order of the edges' digraph, for every build of `t`
pub record OrdersNodes (t : Tables) (order : Sequence) : Type 0 where
  pub built : Built
  pub is_built : IsBuilt t built
  pub every : (b : Built) → IsBuilt t b → IsOrderOf (digraph_of b) order

-- a list in a direction: reversed for `Reverse`
abbrev pub read_by : {X : Type 0} → DependencyDirection → List X → List X
read_by Forward xs = xs
read_by Reverse xs = reverse xs

-- The output of `order`: the text lists all features in the order of the nodes, reversed for `Reverse`.
pub record ListsInOrder (t : Tables) (direction : DependencyDirection) (text : Text) : Type 0 where
  pub order : Sequence
  pub is_order : OrdersNodes t order
  pub lines : text ≡ listing (names_of_nodes t (read_by direction order.list))

-- the ids of each group, with an empty line between two groups
abbrev pub groups : List (List (Text × LabelName)) → Text
groups [] = []
groups (first ∷ rest) = listing first ++ flat_map (λ ids. 10 ∷ listing ids) rest

-- an empty line, unless the group is the first
abbrev pub before_group : Bool → Text
before_group true = []
before_group false = 10 ∷ []

-- The output of `cycles`: the components that have a cycle, the last in the order first. The features of each are in
-- the order.
pub record ListsCycles (t : Tables) (text : Text) : Type 0 where
  pub order : Sequence
  pub is_order : OrdersNodes t order
  pub lines : (b : Built) → IsBuilt t b → text ≡ groups (cycle_names (record { tables = t; built = b }) order)

-- The output of `list`: one line with the labels of the package `id`, sorted and without repeats.
pub record ListsFeatures (t : Tables) (id : Text) (text : Text) : Type 0 where
  pub known : HasPackage t id
  pub labels : List LabelName
  pub ascends : Ascends labels
  pub own : (table : PackageTable) → Contains t.packages table → table.id ≡ id → SameLabels (labels_of table) labels
  pub line : text ≡ joined labels ++ 10 ∷ []

-- the line of a warning: its kind, the package's id and the feature's name, with tabs between
abbrev pub warning_line : Warning → Text
warning_line (missing_feature id name) = codes "missing" ++ 9 ∷ id ++ 9 ∷ name ++ 10 ∷ []
warning_line (self_loop id name) = codes "self-loop" ++ 9 ∷ id ++ 9 ∷ name ++ 10 ∷ []

abbrev pub warning_lines : List Warning → Text
warning_lines found = flat_map warning_line found

abbrev pub declarations_word : LinkDeclarations → Text
declarations_word Unsplit = codes "unsplit"
declarations_word Required = codes "required"
declarations_word Optional = codes "optional"

-- the reason why a feature is on: it is initial, or an edge or a link with these declarations leads to it from another
-- feature
abbrev pub reason_fields : ReasonName → Text
reason_fields initial = codes "initial"
reason_fields (edge from to) = codes "edge" ++ 9 ∷ id_text from
reason_fields (link from to declarations) = codes "link" ++ 9 ∷ id_text from ++ 9 ∷ declarations_word declarations

-- the line of a step: the feature and the reason, with tabs between
abbrev pub step_line : (Text × LabelName) × ReasonName → Text
step_line (id, reason) = id_text id ++ 9 ∷ reason_fields reason ++ 10 ∷ []

abbrev pub step_lines : List ((Text × LabelName) × ReasonName) → Text
step_lines told = flat_map step_line told

-- The steps named in `told` explain each feature of the least set for the platform's offers once, and no other feature.
-- Each step uses an offer of the platform.
pub record TellsPlatform (g : Graph) (kinds : List DependencyKind) (specs : List Text) (initials : List Bool) (told : List ((Text × LabelName) × ReasonName)) : Type 0 where
  pub steps : List Step
  pub are_steps : AreTold g steps told
  pub explanation : IsExplanation (content_of Forward g.built) (has initials) (platform_offers kinds specs g) steps
  pub least : (n : ℕ) → IsTrue (is_in (nodes_of steps) n) ↔ Least (content_of Forward g.built) (has initials) (platform_offers kinds specs g) n

-- The output of `build`: every id names a feature, and the text lists such steps from these features, for every build
-- of `t`.
pub record Builds (t : Tables) (kinds : List DependencyKind) (ids : List (Text × LabelName)) (specs : List Text) (text : Text) : Type 0 where
  pub known : AreKnown t ids
  pub initials : List Bool
  pub given : HoldsExactly t initials ids
  pub told : List ((Text × LabelName) × ReasonName)
  pub lines : text ≡ step_lines told
  pub built : Built
  pub is_built : IsBuilt t built
  pub every : (b : Built) → IsBuilt t b → TellsPlatform (record { tables = t; built = b }) kinds specs initials told

-- The refusal names the first of the ids that is no feature.
pub record NamesUnknown (t : Tables) (ids : List (Text × LabelName)) (refusal : Refusal) : Type 0 where
  pub id : Text × LabelName
  pub first : IsFirstUnknown t ids id
  pub named : refusal ≡ unknown_feature (id_text id)

-- the possible refusals of a query over ids: an unknown feature, or out of memory
abbrev pub MayRefuseIds : graph.Refusal → Type 0
MayRefuseIds (graph.unknown_feature id) = Unit {0}
MayRefuseIds graph.no_memory = Unit {0}
MayRefuseIds (graph.unknown_package id) = ⊥
MayRefuseIds (graph.internal_error from to) = ⊥

-- the same refusal, as the program's
abbrev pub IsToldAs : Refusal → graph.Refusal → Type 0
IsToldAs refusal (graph.unknown_feature id) = IfNotMemory refusal (refusal ≡ unknown_feature (id_text id))
IsToldAs refusal graph.no_memory = refusal ≡ out_of_memory
IsToldAs refusal (graph.unknown_package id) = ⊥
IsToldAs refusal (graph.internal_error from to) = ⊥

-- the possible refusals of a package look-up: an unknown package, or out of memory
abbrev pub MayRefusePackage : graph.Refusal → Type 0
MayRefusePackage (graph.unknown_feature id) = ⊥
MayRefusePackage graph.no_memory = Unit {0}
MayRefusePackage (graph.unknown_package id) = Unit {0}
MayRefusePackage (graph.internal_error from to) = ⊥

abbrev pub IsPackageToldAs : Refusal → graph.Refusal → Type 0
IsPackageToldAs refusal (graph.unknown_feature id) = ⊥
IsPackageToldAs refusal graph.no_memory = refusal ≡ out_of_memory
IsPackageToldAs refusal (graph.unknown_package id) = IfNotMemory refusal (refusal ≡ unknown_package id)
IsPackageToldAs refusal (graph.internal_error from to) = ⊥

-- the refusal names a package that doesn't exist
abbrev pub NamesNoPackage : Tables → Text → Refusal → Type 0
NamesNoPackage t id refusal = (refusal ≡ unknown_package id) × (¬ HasPackage t id)

-- the output of a command over the tables: a text, or the first refusal
abbrev pub IsOutput : CommandText → Tables → Result Text Refusal → Type 0
IsOutput (resolve direction ids) t (Ok text) = Resolves t direction ids text
IsOutput (resolve direction ids) t (Err refusal) = NamesUnknown t ids refusal
IsOutput (visit direction ids) t (Ok text) = Visits t direction ids text
IsOutput (visit direction ids) t (Err refusal) = NamesUnknown t ids refusal
IsOutput (ordered direction) t (Ok text) = ListsInOrder t direction text
IsOutput (ordered direction) t (Err refusal) = ⊥
IsOutput all_cycles t (Ok text) = ListsCycles t text
IsOutput all_cycles t (Err refusal) = ⊥
IsOutput (list_of id) t (Ok text) = ListsFeatures t id text
IsOutput (list_of id) t (Err refusal) = NamesNoPackage t id refusal
IsOutput all_warnings t (Ok text) = text ≡ warning_lines (warnings t)
IsOutput all_warnings t (Err refusal) = ⊥
IsOutput (build kinds ids specs) t (Ok text) = Builds t kinds ids specs text
IsOutput (build kinds ids specs) t (Err refusal) = NamesUnknown t ids refusal
