-- Excluded middle for finitely many statements, under a double negation.
use Rattle.std.proofs.Common.{◌≡◌, ℕ, zero, suc, ◌<◌, ◌⊎◌, inl, inr, Bool, true, false, List, [], ◌∷◌, length, Some, refl, ap, subst, arith}
use Rattle.std.specs.Prelude.{◌↔◌, slice_get, IsTrue}
use Rattle.digraphs.specs.Bits.{has}

-- a statement that is proved isn't refuted
pub sure : {P : Type 0} → P → ¬ ¬ P
sure p k = k p

-- what follows from a statement that isn't refuted isn't refuted either
pub onward : {P Q : Type 0} → ¬ ¬ P → (P → ¬ ¬ Q) → ¬ ¬ Q
onward p f k = p (λ x. f x k)

-- each statement holds or doesn't
pub decided : (P : Type 0) → ¬ ¬ (P ⊎ ¬ P)
decided P k = k (inr (λ p. k (inl p)))

-- For each number below `n`, whether `P` holds of it.
pub record Marks (n : ℕ) (P : ℕ → Type 0) : Type 0 where
  pub marks : List Bool
  pub long : length marks ≡ n
  pub exact : (k : ℕ) → IsTrue (has marks k) ↔ P k

no_marks : (P : ℕ → Type 0) → ((k : ℕ) → P k → k < 0) → Marks 0 P
no_marks P below = record { marks = []; long = refl; exact = λ k. (λ h. absurd (cc), λ p. absurd (omega (arith, below k p))) }

more_marks : (n : ℕ) (P : ℕ → Type 0) → P 0 ⊎ ¬ P 0 → Marks n (λ k. P (suc k)) → Marks (suc n) P
more_marks n P (inl p) m = record { marks = true ∷ m.marks; long = ap suc m.long; exact = at }
  where
    at : (k : ℕ) → IsTrue (has (true ∷ m.marks) k) ↔ P k
    at zero = (λ h. p, λ h. refl)
    at (suc k) = m.exact k
more_marks n P (inr never) m = record { marks = false ∷ m.marks; long = ap suc m.long; exact = at }
  where
    at : (k : ℕ) → IsTrue (has (false ∷ m.marks) k) ↔ P k
    at zero = (λ h. absurd (cc), λ h. absurd (never h))
    at (suc k) = m.exact k

-- a statement that holds of numbers below n alone has marks
pub marked : (n : ℕ) (P : ℕ → Type 0) → ((k : ℕ) → P k → k < n) → ¬ ¬ Marks n P
marked zero P below = sure (no_marks P below)
marked (suc n) P below = onward (decided (P 0)) (λ d. onward (marked n (λ k. P (suc k)) (λ k p. omega (arith, below (suc k) p))) (λ m. sure (more_marks n P d m)))

-- `n` values: the one at place `k` is related to `k`.
pub record Chosen {X : Type 0} (n : ℕ) (R : ℕ → X → Type 0) : Type 0 where
  pub items : List X
  pub long : length items ≡ n
  pub each : (k : ℕ) (x : X) → slice_get items k ≡ Some x → R k x

more_chosen : {X : Type 0} (n : ℕ) (R : ℕ → X → Type 0) (x : X) → R 0 x → Chosen n (λ k. R (suc k)) → Chosen (suc n) R
more_chosen {X} n R x r c = record { items = x ∷ c.items; long = ap suc c.long; each = at }
  where
    at : (k : ℕ) (y : X) → slice_get (x ∷ c.items) k ≡ Some y → R k y
    at zero y e = let same : x ≡ y = cc in subst (R 0) same r
    at (suc k) y e = c.each k y e

-- if each number below n is related to some value, n values can be chosen
pub chosen : {X : Type 0} (n : ℕ) (R : ℕ → X → Type 0) → ((k : ℕ) → k < n → ¬ ¬ ((x : X) × R k x)) → ¬ ¬ Chosen n R
chosen zero R some = sure (record { items = []; long = refl; each = λ k x e. absurd (cc) })
chosen (suc n) R some = onward (some 0 (omega arith)) (λ x. onward (chosen n (λ k. R (suc k)) (λ k l. some (suc k) (omega (arith, l)))) (λ c. sure (more_chosen n R x.0 x.1 c)))
