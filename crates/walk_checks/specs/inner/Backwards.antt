-- The state while the steps of an explanation are read backwards.
use Rattle.std.specs.Prelude.{◌≡◌, ℕ, Bool, List, [], ◌∷◌, Some, slice_get, filter, drop, reverse, IsTrue, ◌≤◌}
use Rattle.walk_engine.specs.declared.walks.Half.{Half}
use Rattle.walk_engine.specs.declared.walks.Step.{Step}
use Rattle.walk_engine.specs.Walks.{Content}
use Rattle.walk_engine.specs.Explanations.{IsExplanation}
use Rattle.walk_checks.specs.Whys.{Leans, RestsOn}

-- The node's own step was kept first. Until then only the node is needed.
abbrev pub IsBegun : ℕ → (ℕ → Bool) → List Step → Type 0
IsBegun node N [] = (n : ℕ) → IsTrue (N n) → n ≡ node
IsBegun node N (step ∷ steps) = step.node ≡ node

-- The steps of needed nodes are kept, the last first, and the nodes on which they lean are needed.
pub record IsKept (c : Content) (steps : List Step) (k : ℕ) (N : ℕ → Bool) (kept : List Step) : Type 0 where
  pub listing : reverse kept ≡ filter (λ step. N step.node) (drop k steps)
  pub supported : (j : ℕ) (step : Step) → k ≤ j → slice_get steps j ≡ Some step → IsTrue (N step.node) → (m : ℕ) → Leans c step.reason m → IsTrue (N m)

-- The invariant after the steps from place `k` on were read.
pub record IsBack (c : Content) (steps : List Step) (node k : ℕ) (N : ℕ → Bool) (kept : List Step) : Type 0 where
  pub sound : (n : ℕ) → IsTrue (N n) → RestsOn c steps node n
  pub held : IsTrue (N node)
  pub begun : IsBegun node N kept
  pub explained : (I : ℕ → Bool) (A : ℕ → Half → Bool) → IsExplanation c I A steps → IsKept c steps k N kept
