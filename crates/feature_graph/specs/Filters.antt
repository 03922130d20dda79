-- Filters over features: calls of a filter for several features, and the standard filters.
use Rattle.std.specs.Prelude.{◌≡◌, ◌↔◌, ◌⊎◌, ◌++◌, ◌∷◌, ℕ, Bool, List, IsTrue, map, filter, length}
use Rattle.std.specs.List.{FoldsTo}
use Rattle.digraphs.specs.Bits.{has}
use Rattle.guppy_packages.specs.Rows.{Text}
use Rattle.guppy_packages.specs.Tables.{Tables}
use Rattle.feature_labels.specs.Names.{LabelName}
use Rattle.feature_labels.specs.Names.LabelName.{base}
use Rattle.feature_core.specs.Nodes.{node_packages}
use Rattle.feature_core.specs.Built.{NodeNamed}
use Rattle.feature_graph.specs.Names.{HoldsExactly, TellsDefault, names_of_members}
use Rattle.feature_graph.specs.Values.{Graph}
use Rattle.feature_graph.specs.declared.query.filter.FeatureFilterFn.{FeatureFilterFn}
use Rattle.feature_graph.specs.declared.query.standard.StandardFeatures.{StandardFeatures}
use Rattle.feature_graph.specs.declared.query.standard.StandardFeatures.TheVariants.{None, Default, All}

-- the names for which a filter was called, with its results
abbrev pub Run : Type 0
Run = List ((Text × LabelName) × Bool)

-- these calls took the filter from the state `s` to `t`
abbrev pub Ran : {S : Type 0} → (S → Graph → Text × LabelName → Bool → S → Type 0) → Graph → S → Run → S → Type 0
Ran gives g s run t = FoldsTo (λ p x q. gives p g x.0 x.1 q) s run t

-- the filter may be called for these names in their order: for each name, in every state that calls for the names before it lead to
abbrev pub MayAskEach : {S : Type 0} → (S → Graph → Text × LabelName → Type 0) → (S → Graph → Text × LabelName → Bool → S → Type 0) → Graph → List (Text × LabelName) → S → Type 0
MayAskEach {S} can gives g names s = (run : Run) (t : S) (name : Text × LabelName) (later : List (Text × LabelName)) → Ran gives g s run t → map (λ x. x.0) run ++ name ∷ later ≡ names → can t g name

-- the names for which the filter returned true
abbrev pub accepted : Run → List (Text × LabelName)
accepted run = map (λ x. x.0) (filter (λ x. x.1) run)

-- for each node, whether its package is in the workspace
abbrev pub workspace_marks : Tables → List Bool
workspace_marks t = map (λ p. has (map (λ table. table.in_workspace) t.packages) p) (node_packages t)

-- the names of the features of the workspace's packages, in the order of the nodes
abbrev pub workspace_names : Tables → List (Text × LabelName)
workspace_names t = names_of_members t (workspace_marks t)

-- The filter was called once for each feature of the workspace's packages, in the order of the nodes. The initial nodes
-- are those that it accepted.
pub record SelectsByFilter {S : Type 0} (gives : S → Graph → Text × LabelName → Bool → S → Type 0) (g : Graph) (s t : S) (initials : List Bool) : Type 0 where
  pub run : Run
  pub steps : Ran gives g s run t
  pub each : map (λ x. x.0) run ≡ workspace_names g.tables
  pub exact : HoldsExactly g.tables initials (accepted run)

-- The filter was called for the feature of this node, and the node was inserted if the filter accepted it.
pub record AsksNode {S : Type 0} (gives : S → Graph → Text × LabelName → Bool → S → Type 0) (g : Graph) (node : ℕ) (s t : S) (old new : List Bool) : Type 0 where
  pub name : Text × LabelName
  pub named : NodeNamed g.tables node name
  pub answer : Bool
  pub step : gives s g name answer t
  pub size : length new ≡ length old
  pub adds : (n : ℕ) → IsTrue (has new n) ↔ (IsTrue (has old n) ⊎ (IsTrue answer × NodeNamed g.tables n name))

-- the closure that the filter calls
abbrev pub closure_of : {F : Type 0} → FeatureFilterFn F → F
closure_of f = f.0

-- the result of a standard filter for the feature of this name
abbrev pub StandardAccepts : StandardFeatures → Tables → Text × LabelName → Bool → Type 0
StandardAccepts None t name answer = IsTrue answer ↔ (name.1 ≡ base)
StandardAccepts Default t name answer = TellsDefault t name answer
StandardAccepts All t name answer = IsTrue answer
