-- The comparison of a name in code with a package's name, byte by byte.
use Rattle.std.proofs.Common.{◌≡◌, ◌∙◌, ap, refl, ℕ, ◌+◌, ◌<◌, List, [], length, drop, get_or, Bool, true, false, ◌&&◌, add-one, inl, inr}
use Rattle.std.specs.Prelude.{◌==◌}
use Rattle.std.specs.Cmp.Lexicographic.{pointwise}
use Rattle.std.proofs.lemmas.Bool.{false≢true, true≢false}
use Rattle.std.proofs.lemmas.Bool.Decides.{eqb_tells}
use Rattle.std.proofs.Math.Seq.{drop-cons, drop-length}
use lib.Pointwise.{pointwise_long}
use Rattle.workspace_documents.specs.Dependencies.{in_code, is_in_code}

abbrev same : ℕ → ℕ → Bool
same a b = a == in_code b

and_true : (s r : Bool) → s ≡ true → (s && r) ≡ r
and_true true r h = refl
and_true false r h = absurd (false≢true h)

and_false : (s r : Bool) → s ≡ false → (s && r) ≡ false
and_false true r h = absurd (true≢false h)
and_false false r h = refl

same_true : (a b : ℕ) → a ≡ in_code b → same a b ≡ true
same_true a b e = elim (eqb_tells a (in_code b)) [ inl p ↦ p.0 | inr p ↦ absurd (p.1 e) ]

same_false : (a b : ℕ) → (a ≡ in_code b → ⊥) → same a b ≡ false
same_false a b h = elim (eqb_tells a (in_code b)) [ inl p ↦ absurd (h p.1) | inr p ↦ p.0 ]

not_true : (b : Bool) → (b ≡ true → ⊥) → b ≡ false
not_true true h = absurd (h refl)
not_true false h = refl

step : (xs ys : List ℕ) (i : ℕ) → i < length xs → i < length ys → pointwise same (drop i xs) (drop i ys) ≡ (same (get_or xs i 0) (get_or ys i 0) && pointwise same (drop (i + 1) xs) (drop (i + 1) ys))
step xs ys i h k = rw (add-one, drop-cons xs i 0 h, drop-cons ys i 0 k) refl

pub in_code_same : (xs ys : List ℕ) (i : ℕ) → i < length xs → i < length ys → get_or xs i 0 ≡ in_code (get_or ys i 0) → is_in_code (drop i xs) (drop i ys) ≡ is_in_code (drop (i + 1) xs) (drop (i + 1) ys)
unfolding is_in_code
in_code_same xs ys i h k e = step xs ys i h k ∙ and_true (same (get_or xs i 0) (get_or ys i 0)) (pointwise same (drop (i + 1) xs) (drop (i + 1) ys)) (same_true (get_or xs i 0) (get_or ys i 0) e)

pub in_code_other : (xs ys : List ℕ) (i : ℕ) → i < length xs → i < length ys → (get_or xs i 0 ≡ in_code (get_or ys i 0) → ⊥) → is_in_code (drop i xs) (drop i ys) ≡ false
unfolding is_in_code
in_code_other xs ys i h k n = step xs ys i h k ∙ and_false (same (get_or xs i 0) (get_or ys i 0)) (pointwise same (drop (i + 1) xs) (drop (i + 1) ys)) (same_false (get_or xs i 0) (get_or ys i 0) n)

pub in_code_long : (xs ys : List ℕ) → (length xs ≡ length ys → ⊥) → is_in_code xs ys ≡ false
unfolding is_in_code
in_code_long xs ys n = not_true (pointwise same xs ys) (λ e. n (pointwise_long same xs ys e))

pub in_code_end : (xs ys : List ℕ) (i : ℕ) → i ≡ length xs → i ≡ length ys → is_in_code (drop i xs) (drop i ys) ≡ true
unfolding is_in_code
in_code_end xs ys i e f =
    let a : drop i xs ≡ [] = ap (λ n. drop n xs) e ∙ drop-length xs in
    let b : drop i ys ≡ [] = ap (λ n. drop n ys) f ∙ drop-length ys in
    rw (a, b) refl
