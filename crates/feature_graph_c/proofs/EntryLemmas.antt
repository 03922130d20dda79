-- Lists that are appended entry by entry.
use Rattle.std.proofs.Common.{◌≡◌, ℕ, ◌+◌, List, [], ◌∷◌, ◌++◌, zero, suc, map, drop, Some, arith, ap, sym, ◌∙◌}
use Rattle.std.specs.Prelude.{slice_get}
use Rattle.std.specs.List.{concat}
use Rattle.std.proofs.lemmas.List.{append_assoc}

-- The rest of a list from an element on.
pub rest_some : {X : Type 0} (xs : List X) (i : ℕ) (x : X) → slice_get xs i ≡ Some x → drop i xs ≡ x ∷ drop (i + 1) xs
rest_some [] i x e = absurd (cc)
rest_some (y ∷ ys) zero x e = let same : y ≡ x = cc in ap (λ z. z ∷ ys) same
rest_some (y ∷ ys) (suc i) x e = rest_some ys i x e ∙ (let n : suc (i + 1) ≡ suc i + 1 = omega arith in ap (λ k. x ∷ drop k (y ∷ ys)) n)

-- An entry is appended.
pub entry_next : (es : List (List ℕ)) (i : ℕ) (e bytes next all : List ℕ) → slice_get es i ≡ Some e → next ≡ bytes ++ e → bytes ++ concat (drop i es) ≡ all → next ++ concat (drop (i + 1) es) ≡ all
entry_next es i e bytes next all is appended so_far =
    ap (λ z. z ++ concat (drop (i + 1) es)) appended ∙ append_assoc bytes e (concat (drop (i + 1) es)) ∙ ap (λ z. bytes ++ concat z) (sym (rest_some es i e is)) ∙ so_far

-- The record of an element is an entry of the list.
pub entry_of : {X : Type 0} (f : X → List ℕ) (xs : List X) (i : ℕ) (x : X) → slice_get xs i ≡ Some x → slice_get (map f xs) i ≡ Some (f x)
entry_of f [] i x e = absurd (cc)
entry_of f (y ∷ ys) zero x e = let same : y ≡ x = cc in ap (λ z. Some (f z)) same
entry_of f (y ∷ ys) (suc i) x e = entry_of f ys i x e
