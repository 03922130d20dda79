-- Elements of lists.
use Rattle.std.proofs.Common.{◌≡◌, ◌⊎◌, ◌<◌, ◌≤◌, ◌+◌, ℕ, zero, suc, eqb, true, false, replicate, ⊎_elim, refl, ap, sym, subst, List, [], ◌∷◌, length, take, get_or, max, Contains, Option, Some, None, arith, not-suc-le-zero}
use Rattle.std.proofs.lemmas.List.{take_all, take_more}
use Rattle.std.proofs.lemmas.List.Elements.{Contains-append_left, Contains-push, Contains-push_cases}

pub none_in : {X : Type 0} (x : X) → Contains [] x → ⊥
none_in x c = not-suc-le-zero c.1

pub first_in : {X : Type 0} (x : X) (xs : List X) → Contains (x ∷ xs) x
first_in x xs = Contains-append_left (x ∷ []) xs x (Contains-push [] x)

-- one more element of the first elements
pub taken_cases : {X : Type 0} (xs : List X) (i : ℕ) (d x : X) → i < length xs → Contains (take (i + 1) xs) x → Contains (take i xs) x ⊎ (get_or xs i d ≡ x)
taken_cases xs i d x within c = Contains-push_cases (take i xs) (get_or xs i d) x (subst (λ z. Contains z x) (take_more xs i d within) c)

pub taken_before : {X : Type 0} (xs : List X) (i : ℕ) (d x : X) → i < length xs → Contains (take i xs) x → Contains (take (i + 1) xs) x
taken_before xs i d x within c = subst (λ z. Contains z x) (sym (take_more xs i d within)) (Contains-append_left (take i xs) (get_or xs i d ∷ []) x c)

pub taken_next : {X : Type 0} (xs : List X) (i : ℕ) (d x : X) → i < length xs → get_or xs i d ≡ x → Contains (take (i + 1) xs) x
taken_next xs i d x within e =
    subst (λ z. Contains (take (i + 1) xs) z) e
    (subst (λ z. Contains z (get_or xs i d)) (sym (take_more xs i d within)) (Contains-push (take i xs) (get_or xs i d)))

pub all_taken : {X : Type 0} (xs : List X) (i : ℕ) (x : X) → length xs ≤ i → Contains xs x → Contains (take i xs) x
all_taken xs i x past c = subst (λ z. Contains z x) (sym (take_all i xs past)) c

pub from_taken : {X : Type 0} (xs : List X) (i : ℕ) (x : X) → length xs ≤ i → Contains (take i xs) x → Contains xs x
from_taken xs i x past c = subst (λ z. Contains z x) (take_all i xs past) c

-- an option is there or it isn't
pub not_both : {X Q : Type 0} (o : Option X) (x : X) → o ≡ None → o ≡ Some x → Q
not_both o x none some = cc

pub same_one : {X : Type 0} (o : Option X) (x y : X) → o ≡ Some x → o ≡ Some y → x ≡ y
same_one o x y a b = cc

pub by_option : {X Q : Type 0} (o : Option X) → (o ≡ None → Q) → ((x : X) → o ≡ Some x → Q) → Q
by_option None f g = f refl
by_option (Some x) f g = g x refl

-- the greatest number so far
pub greatest_more : (xs : List ℕ) (i old new : ℕ) → i < length xs → ((n : ℕ) → Contains (take i xs) n → n ≤ old) → new ≡ max old (get_or xs i 0)
    → (n : ℕ) → Contains (take (i + 1) xs) n → n ≤ new
greatest_more xs i old new within below is n c = ⊎_elim (λ h. let b : n ≤ old = below n h in omega arith) (λ e. omega arith) (taken_cases xs i 0 n within c)

pub ends_more : (links : List (ℕ × ℕ)) (i old inner new : ℕ) → i < length links → ((from to : ℕ) → Contains (take i links) (from, to) → (from ≤ old) × (to ≤ old))
    → inner ≡ max (get_or links i (0, 0)).0 (get_or links i (0, 0)).1 → new ≡ max old inner → (from to : ℕ) → Contains (take (i + 1) links) (from, to) → (from ≤ new) × (to ≤ new)
ends_more links i old inner new within below pair is from to c = ⊎_elim before here (taken_cases links i (0, 0) (from, to) within c)
  where
    before : Contains (take i links) (from, to) → (from ≤ new) × (to ≤ new)
    before h =
        let a : from ≤ old = (below from to h).0 in
        let b : to ≤ old = (below from to h).1 in
        (omega arith, omega arith)

    here : get_or links i (0, 0) ≡ (from, to) → (from ≤ new) × (to ≤ new)
    here e =
        let a : (get_or links i (0, 0)).0 ≡ from = ap (λ (l : ℕ × ℕ). l.0) e in
        let b : (get_or links i (0, 0)).1 ≡ to = ap (λ (l : ℕ × ℕ). l.1) e in
        (omega arith, omega arith)

-- nothing is in a blank table
pub blank_at : {X : Type 0} (count n : ℕ) → get_or {A = Option X} (replicate count None) n None ≡ None
blank_at zero n = refl
blank_at (suc count) zero = refl
blank_at (suc count) (suc n) = blank_at count n

pub positive : (n : ℕ) → eqb n 0 ≡ false → 0 < n
positive zero e = absurd (let bad : true ≡ false = e in cc)
positive (suc n) e = omega arith
