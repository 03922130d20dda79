-- The elements that a step adds to a list, in any order.
use Rattle.std.specs.Prelude.{ℕ, ◌<◌, ◌⊎◌, List, Contains}

-- The elements of `new` are those of `old` and those that satisfy `P`.
pub record Adds {X : Type 0} (P : X → Type 0) (old new : List X) : Type 0 where
  pub kept : (x : X) → Contains old x → Contains new x
  pub added : (x : X) → P x → Contains new x
  pub nothing_else : (x : X) → Contains new x → Contains old x ⊎ P x

-- The elements that satisfy `P k` for some `k` below `n`.
abbrev pub Below : {X : Type 0} → ℕ → (ℕ → X → Type 0) → X → Type 0
Below n P x = (k : ℕ) × (k < n) × P k x
