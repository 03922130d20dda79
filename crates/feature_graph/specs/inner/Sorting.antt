-- The state between two calls of a callback, and the two sets that its results fill.
use Rattle.std.specs.Prelude.{◌≡◌, ◌↔◌, ◌++◌, ◌⊎◌, ℕ, Bool, List, IsTrue, Contains, map, length}
use Rattle.std.specs.List.{FoldsTo}
use Rattle.digraphs.specs.Bits.{has}
use Rattle.guppy_packages.specs.Tables.{Tables}
use Rattle.feature_core.specs.Nodes.{nodes}
use Rattle.feature_graph.specs.Parts.{CallsAt}
use Rattle.feature_graph.specs.declared.graph.metadata.FeatureMetadata.{FeatureMetadata}

-- the nodes of the calls whose results pass the test
pub record IsFilled {A : Type 0} (test : A → Bool) (calls : List (ℕ × A)) (size : ℕ) (members : List Bool) : Type 0 where
  pub long : length members ≡ size
  pub exact : (n : ℕ) → IsTrue (has members n) ↔ ((a : A) × Contains calls (n, a) × IsTrue (test a))

-- the callback was called for the features of all nodes before `rest`
pub record HasCalled {F A : Type 0} (step : F → FeatureMetadata → A → F → Type 0) (first second : A → Bool) (t : Tables) (all rest : List ℕ) (f g : F) (one other : List Bool) : Type 0 where
  pub calls : List (ℕ × A)
  pub each : map (λ x. x.0) calls ++ rest ≡ all
  pub steps : FoldsTo (λ p x q. CallsAt step t p x q) f calls g
  pub one_filled : IsFilled first calls (length (nodes t)) one
  pub other_filled : IsFilled second calls (length (nodes t)) other

-- the node is inserted if `say` is true
pub record IsPut (say : Bool) (node : ℕ) (old new : List Bool) : Type 0 where
  pub size : length new ≡ length old
  pub adds : (n : ℕ) → IsTrue (has new n) ↔ (IsTrue (has old n) ⊎ ((n ≡ node) × IsTrue say))
