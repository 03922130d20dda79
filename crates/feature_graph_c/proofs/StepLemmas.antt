-- Items that are read one by one.
use Rattle.std.proofs.Common.{◌≡◌, ℕ, List, [], ◌∷◌, ◌++◌, suc, Option, Some, None, refl, ap, sym, ◌∙◌, append_assoc, append-nil}
use Rattle.std.specs.Prelude.{option_and_then}
use Rattle.std.specs.Option.{option_map}
use Rattle.feature_graph_c.specs.requests.Requests.{many_in}

-- The items so far before those that are read.
abbrev pub after : {X : Type 0} → List X → Option (List X × List ℕ) → Option (List X × List ℕ)
after items found = option_map (λ p. (items ++ p.0, p.1)) found

pub after_nothing : {X : Type 0} (found : Option (List X × List ℕ)) → after [] found ≡ found
after_nothing None = refl
after_nothing (Some p) = refl

pub after_one : {X : Type 0} (items : List X) (x : X) (found : Option (List X × List ℕ)) → after items (option_map (λ p. (x ∷ p.0, p.1)) found) ≡ after (items ++ x ∷ []) found
after_one items x None = refl
after_one items x (Some p) = ap (λ z. Some (z, p.1)) (sym (append_assoc items (x ∷ []) p.0))

module _ {X : Type 0} (one : List ℕ → Option (X × List ℕ)) where
  -- An item is read.
  pub many_more : (items next : List X) (k n : ℕ) (x : X) (rest tail : List ℕ) (all : Option (List X × List ℕ)) → n ≡ suc k → one rest ≡ Some (x, tail) → next ≡ items ++ x ∷ []
      → after items (many_in one n rest) ≡ all → after next (many_in one k tail) ≡ all
  many_more items next k n x rest tail all count is pushed so_far =
      ap (λ z. after z (many_in one k tail)) pushed ∙ sym (after_one items x (many_in one k tail))
      ∙ ap (λ z. after items (option_and_then (λ x. option_map (λ p. (x.0 ∷ p.0, p.1)) (many_in one k x.1)) z)) (sym is)
      ∙ ap (λ z. after items (many_in one z rest)) (sym count) ∙ so_far

  -- No item is read.
  pub many_none : (items : List X) (k n : ℕ) (rest : List ℕ) (all : Option (List X × List ℕ)) → n ≡ suc k → one rest ≡ None → after items (many_in one n rest) ≡ all → None ≡ all
  many_none items k n rest all count is so_far =
      ap (λ z. after items (option_and_then (λ x. option_map (λ p. (x.0 ∷ p.0, p.1)) (many_in one k x.1)) z)) (sym is)
      ∙ ap (λ z. after items (many_in one z rest)) (sym count) ∙ so_far

  -- All items are read.
  pub many_end : (items : List X) (n : ℕ) (rest : List ℕ) (all : Option (List X × List ℕ)) → n ≡ 0 → after items (many_in one n rest) ≡ all → Some (items, rest) ≡ all
  many_end items n rest all count so_far =
      ap (λ z. Some (z, rest)) (sym (append-nil items)) ∙ ap (λ z. after items (many_in one z rest)) (sym count) ∙ so_far
