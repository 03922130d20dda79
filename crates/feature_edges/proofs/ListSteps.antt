-- Lists traversed by number.
use Rattle.std.proofs.Common.{◌≡◌, ℕ, ◌+◌, ◌≤◌, List, [], ◌∷◌, ◌++◌, length, map, drop, Bool, true, false, cond, None, Some, ap, sym, ◌∙◌, append_assoc, append-nil}
use Rattle.std.specs.Prelude.{position, slice_get}
use Rattle.std.specs.List.{position_from, zip}
use Rattle.std.proofs.lemmas.Iterator.Adapters.{position_from-zero}
use Rattle.std.proofs.lemmas.List.{drop_all, drop_more}
use Rattle.std.proofs.lemmas.Option.{slice_get_within, get_or_from_slice_get}

-- the elements from a number on
pub drop_read : {X : Type 0} (xs : List X) (i : ℕ) (x : X) → slice_get xs i ≡ Some x → drop i xs ≡ x ∷ drop (i + 1) xs
drop_read xs i x h = drop_more xs i x (slice_get_within xs i x h) ∙ ap (λ z. z ∷ drop (i + 1) xs) (get_or_from_slice_get xs i x x h)

-- the first element that passes isn't before number `i`
module _ {X : Type 0} (p : X → Bool) (xs : List X) where
  abbrev pub IsSought : ℕ → Type 0
  IsSought i = position_from p i (drop i xs) ≡ position p xs

  pub sought_first : IsSought 0
  sought_first = sym (position_from-zero p xs)

  pub sought_next : (i : ℕ) (x : X) → slice_get xs i ≡ Some x → p x ≡ false → IsSought i → IsSought (i + 1)
  sought_next i x h e s = sym (ap (λ b. cond b (Some i) (position_from p (i + 1) (drop (i + 1) xs))) e) ∙ sym (ap (position_from p i) (drop_read xs i x h)) ∙ s

  pub sought_here : (i : ℕ) (x : X) → slice_get xs i ≡ Some x → p x ≡ true → IsSought i → Some i ≡ position p xs
  sought_here i x h e s = sym (ap (λ b. cond b (Some i) (position_from p (i + 1) (drop (i + 1) xs))) e) ∙ sym (ap (position_from p i) (drop_read xs i x h)) ∙ s

  pub sought_none : (i : ℕ) → length xs ≤ i → IsSought i → None ≡ position p xs
  sought_none i l s = sym (ap (position_from p i) (drop_all i xs l)) ∙ s

-- the values made from the first `i` pairs of two lists, and from the rest
module _ {A B C : Type 0} (make : A × B → C) (xs : List A) (ys : List B) where
  abbrev pub ArePaired : ℕ → List C → Type 0
  ArePaired i made = made ++ map make (zip (drop i xs) (drop i ys)) ≡ map make (zip xs ys)

  pub paired_more : (i : ℕ) (x : A) (y : B) (before after : List C) → slice_get xs i ≡ Some x → slice_get ys i ≡ Some y → after ≡ before ++ make (x, y) ∷ [] → ArePaired i before → ArePaired (i + 1) after
  paired_more i x y before after h k more s =
      ap (λ z. z ++ map make (zip (drop (i + 1) xs) (drop (i + 1) ys))) more
      ∙ append_assoc before (make (x, y) ∷ []) (map make (zip (drop (i + 1) xs) (drop (i + 1) ys)))
      ∙ ap (λ z. before ++ map make (zip (x ∷ drop (i + 1) xs) z)) (sym (drop_read ys i y k))
      ∙ ap (λ z. before ++ map make (zip z (drop i ys))) (sym (drop_read xs i x h))
      ∙ s

  pub paired_all : (i : ℕ) (made : List C) → length xs ≤ i → ArePaired i made → made ≡ map make (zip xs ys)
  paired_all i made l s = sym (append-nil made) ∙ ap (λ z. made ++ map make (zip z (drop i ys))) (sym (drop_all i xs l)) ∙ s
