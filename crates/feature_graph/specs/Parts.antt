-- Calls of a callback for the features of a set, and the parts that its results make.
use Rattle.std.specs.Prelude.{◌≡◌, ◌↔◌, ◌++◌, ◌∷◌, ℕ, Bool, false, List, Option, Some, None, IsTrue, Contains, map, not, length}
use Rattle.std.specs.List.{FoldsTo}
use Rattle.digraphs.specs.Bits.{has}
use Rattle.digraph_orders.specs.Sequences.{Sequence, IsOrderOf}
use Rattle.guppy_packages.specs.Tables.{Tables}
use Rattle.guppy_packages.specs.declared.direction.DependencyDirection.{DependencyDirection}
use Rattle.feature_core.specs.Built.{NodeNamed, digraph_of}
use Rattle.feature_core.specs.Nodes.{nodes}
use Rattle.feature_graph.specs.Ordered.{AtOrder, ordered_nodes}
use Rattle.feature_graph.specs.Values.{Set}
use Rattle.feature_graph.specs.Views.{feature_name_of, feature_tables_of}
use Rattle.feature_graph.specs.declared.graph.metadata.FeatureMetadata.{FeatureMetadata}

-- the callback was called with the feature of the node, and returned this result
pub record CallsAt {F A : Type 0} (step : F → FeatureMetadata → A → F → Type 0) (t : Tables) (f : F) (call : ℕ × A) (g : F) : Type 0 where
  pub feature : FeatureMetadata
  pub of_graph : feature_tables_of feature ≡ t
  pub named : NodeNamed t call.0 (feature_name_of feature)
  pub call_step : step f feature call.1 g

-- the callback was called once for the feature of each of these nodes, in their order, with these results
pub record CalledEach {F A : Type 0} (step : F → FeatureMetadata → A → F → Type 0) (t : Tables) (numbers : List ℕ) (f g : F) (calls : List (ℕ × A)) : Type 0 where
  pub each : map (λ x. x.0) calls ≡ numbers
  pub steps : FoldsTo (λ p x q. CallsAt step t p x q) f calls g

-- the callback was called for each feature of the set, in order, and `P` holds for its results
abbrev pub Calls : {F A : Type 0} → (F → FeatureMetadata → A → F → Type 0) → DependencyDirection → Set → F → F → (List (ℕ × A) → Type 0) → Type 0
Calls {F} {A} step direction s f g P = AtOrder s.graph (λ o. (calls : List (ℕ × A)) × CalledEach step s.graph.tables (ordered_nodes direction s o) f g calls × P calls)

-- the callback may be called for the features of these nodes in their order: for each node, in every state that calls for the nodes before
-- it lead to
abbrev pub MayCallEach : {F A : Type 0} → (F → FeatureMetadata → Type 0) → (F → FeatureMetadata → A → F → Type 0) → Tables → List ℕ → F → Type 0
MayCallEach {F} {A} pre step t numbers f =
    (calls : List (ℕ × A)) (g : F) (node : ℕ) (later : List ℕ) (m : FeatureMetadata) → FoldsTo (λ p x q. CallsAt step t p x q) f calls g → map (λ x. x.0) calls ++ node ∷ later ≡ numbers
    → feature_tables_of m ≡ t → NodeNamed t node (feature_name_of m) → pre g m

-- the callback may be called for the features of the set, in order
abbrev pub MayCall : {F A : Type 0} → (F → FeatureMetadata → Type 0) → (F → FeatureMetadata → A → F → Type 0) → DependencyDirection → Set → F → Type 0
MayCall pre step direction s f = (o : Sequence) → IsOrderOf (digraph_of s.graph.built) o → MayCallEach pre step s.graph.tables (ordered_nodes direction s o) f

-- the part of a set with the nodes whose results pass the test
pub record IsPart {A : Type 0} (test : A → Bool) (calls : List (ℕ × A)) (s part : Set) : Type 0 where
  pub graph : part.graph ≡ s.graph
  pub size : length part.members ≡ length (nodes s.graph.tables)
  pub exact : (n : ℕ) → IsTrue (has part.members n) ↔ ((a : A) × Contains calls (n, a) × IsTrue (test a))

-- an optional result chooses the first part, the second or neither
abbrev pub says_first : Option Bool → Bool
says_first None = false
says_first (Some b) = b

abbrev pub says_second : Option Bool → Bool
says_second None = false
says_second (Some b) = not b

abbrev pub is_yes : Bool → Bool
is_yes b = b
