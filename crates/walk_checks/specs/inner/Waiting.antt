-- The state while the places of needed nodes are taken, the greatest first.
use Rattle.std.specs.Prelude.{◌≡◌, ◌↔◌, ◌⊎◌, ◌<◌, ◌≤◌, ℕ, Bool, List, Option, Some, slice_get, IsTrue}
use Rattle.walk_engine.specs.declared.walks.Step.{Step}
use Rattle.walk_engine.specs.declared.walks.StepReason.{StepReason}
use Rattle.walk_engine.specs.Walks.{Content}
use Rattle.walk_checks.specs.Whys.{Leans}
use Rattle.walk_checks.specs.inner.Backwards.{IsBack}

-- `place` is the greatest of `W`, and `V` has the others.
pub record TakesGreatest (W V : ℕ → Bool) (place : ℕ) : Type 0 where
  pub held : IsTrue (W place)
  pub greatest : (p : ℕ) → IsTrue (W p) → p ≤ place
  pub others : (p : ℕ) → IsTrue (V p) ↔ (IsTrue (W p) × (p < place))

-- `V` has the places of `W`, and those of the nodes on which the reason leans.
abbrev pub AddsLeaned : Content → StepReason → (ℕ → Option ℕ) → (ℕ → Bool) → (ℕ → Bool) → Type 0
AddsLeaned c reason place W V = (p : ℕ) → IsTrue (V p) ↔ (IsTrue (W p) ⊎ ((m : ℕ) × Leans c reason m × (place m ≡ Some p)))

-- The waiting places are those of the needed nodes, among the places below `k`.
pub record AreWaiting (steps : List Step) (k : ℕ) (N W : ℕ → Bool) : Type 0 where
  pub below : (p : ℕ) → IsTrue (W p) → p < k
  pub needed : (p : ℕ) (step : Step) → p < k → slice_get steps p ≡ Some step → IsTrue (N step.node) ↔ IsTrue (W p)

-- All steps from place `from` on were read. `from` isn't above `bound`. `W` contains the places that wait.
pub record IsReading (c : Content) (steps : List Step) (node bound : ℕ) (W : ℕ → Bool) (kept : List Step) : Type 0 where
  pub from : ℕ
  pub within : from ≤ bound
  pub needs : ℕ → Bool
  pub back : IsBack c steps node from needs kept
  pub waiting : AreWaiting steps from needs W

-- All steps were read.
abbrev pub WasRead : Content → List Step → ℕ → List Step → Type 0
WasRead c steps node kept = (N : ℕ → Bool) × IsBack c steps node 0 N kept
