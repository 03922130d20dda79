-- Flags that are set in one list are set in another.
use Rattle.std.proofs.Common.{◌≡◌, ⊎_elim, ℕ, zero, suc, ◌+◌, List, [], ◌∷◌, ◌++◌, Bool, true, false, length, refl, ap, subst, if◌then◌else◌}
use Rattle.std.specs.Prelude.{◌&&◌, ◌||◌, Contains}
use Rattle.std.proofs.lemmas.List.Elements.{Contains-append_cases, Contains-append_left, Contains-append_right}
use Rattle.feature_labels.specs.Names.{LabelName}
use Rattle.feature_labels.specs.Names.LabelName.{base}
use Rattle.feature_core.proofs.AddsLemmas.{Contains-first, Contains-none}
use Rattle.plan_rows.specs.Tables.{each_from, flag_at}
use Rattle.cargo_plans.specs.plan_starts.Starts.{bases_from, times}
use Rattle.laws.specs.plans.Laws.{AreAmong}
use Rattle.laws.proofs.Members.{both_true, either_true, one_if}

-- each flag that is set is set in the second list
abbrev pub Grows : List Bool → List Bool → Type 0
Grows [] ys = Unit {0}
Grows (x ∷ xs) [] = ⊥
Grows (x ∷ xs) (y ∷ ys) = (x ≡ true → y ≡ true) × Grows xs ys

pub grows-each : {X : Type 0} (f g : ℕ → X → Bool) → ((n : ℕ) (x : X) → f n x ≡ true → g n x ≡ true) → (k : ℕ) (xs : List X) → Grows (each_from f k xs) (each_from g k xs)
grows-each f g h k [] = tt
grows-each f g h k (x ∷ xs) = (h k x, grows-each f g h (k + 1) xs)

pub same_long : {X : Type 0} (f g : ℕ → X → Bool) (k : ℕ) (xs : List X) → length (each_from f k xs) ≡ length (each_from g k xs)
same_long f g k [] = refl
same_long f g k (x ∷ xs) = ap suc (same_long f g (k + 1) xs)

suc_same : (a b : ℕ) → suc a ≡ suc b → a ≡ b
suc_same a b h = cc

pub grows-append : (xs ys us vs : List Bool) → length xs ≡ length ys → Grows xs ys → Grows us vs → Grows (xs ++ us) (ys ++ vs)
grows-append [] [] us vs e a b = b
grows-append [] (y ∷ ys) us vs e a b = absurd (cc)
grows-append (x ∷ xs) [] us vs e a b = absurd a
grows-append (x ∷ xs) (y ∷ ys) us vs e a b = (a.0, grows-append xs ys us vs (suc_same (length xs) (length ys) e) a.1 b)

pub grows-times : (n : ℕ) (xs ys : List Bool) → length xs ≡ length ys → Grows xs ys → Grows (times n xs) (times n ys)
grows-times zero xs ys e a = tt
grows-times (suc n) xs ys e a = grows-append xs ys (times n xs) (times n ys) e a (grows-times n xs ys e a)

pub grows-flag : (xs ys : List Bool) → Grows xs ys → (k : ℕ) → flag_at xs k ≡ true → flag_at ys k ≡ true
grows-flag [] ys a k h = absurd (cc)
grows-flag (x ∷ xs) [] a k h = absurd a
grows-flag (x ∷ xs) (y ∷ ys) a zero h = a.0 h
grows-flag (x ∷ xs) (y ∷ ys) a (suc k) h = grows-flag xs ys a.1 k h

pub bases_more : (k : ℕ) (xs ys : List Bool) → Grows xs ys → AreAmong (bases_from k xs) (bases_from k ys)
bases_more k [] ys a s h = absurd (Contains-none s h)
bases_more k (x ∷ xs) [] a s h = absurd a
bases_more k (x ∷ xs) (y ∷ ys) a s h = ⊎_elim
    (λ i. let one = one_if x (k, base) s i in Contains-append_left (if y then (k, base) ∷ [] else []) (bases_from (k + 1) ys) s (there y (a.0 one.0) s one.1))
    (λ i. Contains-append_right (if y then (k, base) ∷ [] else []) (bases_from (k + 1) ys) s (bases_more (k + 1) xs ys a.1 s i))
    (Contains-append_cases (if x then (k, base) ∷ [] else []) (bases_from (k + 1) xs) s h)
  where
    there : (b : Bool) → b ≡ true → (s : ℕ × LabelName) → ◌≡◌ {A = ℕ × LabelName} (k, base) s → Contains (if b then (k, base) ∷ [] else []) s
    there true e s same = subst (λ z. Contains ((k, base) ∷ []) z) same (Contains-first (k, base) [])
    there false e s same = absurd (cc)

-- The starts of more packages.

and_more : (a b c : Bool) → (a ≡ true → b ≡ true) → (a && c) ≡ true → (b && c) ≡ true
and_more a b c h e = let parts = both_true a c e in rw (h parts.0, parts.1) refl

pub host_more : (a b c d m : Bool) → (a ≡ true → b ≡ true) → (c ≡ true → d ≡ true) → (a || c && m) ≡ true → (b || d && m) ≡ true
host_more a b c d m f g h = ⊎_elim (λ e. left b (d && m) (f e)) (λ e. right b (d && m) (and_more c d m g e)) (either_true a (c && m) h)
  where
    left : (p q : Bool) → p ≡ true → (p || q) ≡ true
    left true q e = refl
    left false q e = cc

    right : (p q : Bool) → q ≡ true → (p || q) ≡ true
    right true q e = refl
    right false q e = e
