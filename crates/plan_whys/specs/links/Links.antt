-- Links as pairs of numbers.
use Rattle.std.specs.Prelude.{◌↔◌, ◌==◌, ℕ, List, [], ◌∷◌, Bool, Option, AllPairs, Contains, if◌then◌else◌, position}
use Rattle.feature_core.specs.Pairs.{IsBefore}
use Rattle.cargo_plans.specs.plan_starts.Lists.{joined_from}

-- The index of number `k` in a list; the first, if it is there several times.
abbrev pub index_of : List ℕ → ℕ → Option ℕ
index_of numbers k = position (λ n. n == k) numbers

-- The indexes of the items that pass, ascending.
abbrev pub indexes_of : {X : Type 0} → (X → Bool) → List X → List ℕ
indexes_of {X} test xs = joined_from (λ (k : ℕ) (x : X). if test x then k ∷ [] else []) 0 xs

-- Exactly the pairs with the property, once each and ascending: by the first number, then by the second.
pub record ArePairsOf (R : ℕ → ℕ → Type 0) (pairs : List (ℕ × ℕ)) : Type 0 where
  pub ascend : AllPairs IsBefore pairs
  pub exact : (a b : ℕ) → Contains pairs (a, b) ↔ R a b
