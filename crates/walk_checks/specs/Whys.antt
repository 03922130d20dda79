-- The reason why a node is listed.
use Rattle.std.specs.Prelude.{◌≡◌, ◌⊎◌, ◌↔◌, ℕ, Bool, List, [], ◌∷◌, ◌++◌, Some, slice_get, filter, IsTrue}
use Rattle.walk_engine.specs.declared.walks.Half.{Half}
use Rattle.walk_engine.specs.declared.walks.Step.{Step}
use Rattle.walk_engine.specs.declared.walks.StepReason.{StepReason}
use Rattle.walk_engine.specs.declared.walks.StepReason.TheVariants.{Initial, Edge, Offer}
use Rattle.walk_engine.specs.Walks.{Content, Way, IsWay, has_gate}
use Rattle.walk_engine.specs.Explanations.{IsExplanation}

-- The reason leans on node `m`: the start of its edge, or the gate if its half waits for one.
abbrev pub Leans : Content → StepReason → ℕ → Type 0
Leans c Initial m = ⊥
Leans c (Edge e) m = (w : Way) × IsWay c e w × (w.start ≡ m)
Leans c (Offer e h) m = (w : Way) × IsWay c e w × ((w.start ≡ m) ⊎ (IsTrue (has_gate w.ask h) × (w.gate ≡ m)))

-- A supported set: with the node of a step, it has each node on which the step's reason leans.
abbrev pub IsSupported : Content → List Step → (ℕ → Bool) → Type 0
IsSupported c steps S = (k : ℕ) (step : Step) → slice_get steps k ≡ Some step → IsTrue (S step.node) → (m : ℕ) → Leans c step.reason m → IsTrue (S m)

-- Node `n` rests on `m`: each supported set that has `n` has `m`.
abbrev pub RestsOn : Content → List Step → ℕ → ℕ → Type 0
RestsOn c steps n m = (S : ℕ → Bool) → IsSupported c steps S → IsTrue (S n) → IsTrue (S m)

-- The steps of the nodes on which `node` rests, in their order. They are an explanation that ends with the
-- node's own step.
pub record IsWhy (c : Content) (I : ℕ → Bool) (A : ℕ → Half → Bool) (steps : List Step) (node : ℕ) (kept : List Step) : Type 0 where
  pub explanation : IsExplanation c I A kept
  pub last : (before : List Step) × (step : Step) × (kept ≡ before ++ step ∷ []) × (step.node ≡ node)
  pub rests : ℕ → Bool
  pub part : kept ≡ filter (λ step. rests step.node) steps
  pub exactly : (n : ℕ) → IsTrue (rests n) ↔ RestsOn c steps node n
