-- Two lists that are read together, pair by pair.
use Rattle.std.proofs.Common.{◌≡◌, ◌∙◌, sym, ap, refl, List, [], ◌∷◌, ◌++◌, map, append_assoc}
use Rattle.std.specs.Prelude.{zip}
use Rattle.std.proofs.lemmas.List.{append-nil}

module _ {A B C : Type 0} (f : A × B → C) (xs : List A) (ys : List B) (done whole : List C) (so : whole ≡ done ++ map f (zip xs ys)) where
  pub pair_more : (x : A) (y : B) (left : List A) (others : List B) → xs ≡ x ∷ left → ys ≡ y ∷ others → whole ≡ (done ++ f (x, y) ∷ []) ++ map f (zip left others)
  pair_more x y left others e h = so ∙ rw (e, h) (sym (append_assoc done (f (x, y) ∷ []) (map f (zip left others))))

  pub first_ended : xs ≡ [] → done ≡ whole
  first_ended e = sym (so ∙ rw e (append-nil done))

  pub second_ended : ys ≡ [] → done ≡ whole
  second_ended e = sym (so ∙ ap (λ (zs : List B). done ++ map f (zip xs zs)) e ∙ ap (λ (ps : List (A × B)). done ++ map f ps) (no_pairs xs) ∙ append-nil done)
    where
      no_pairs : (us : List A) → zip {X = B} us [] ≡ []
      no_pairs [] = refl
      no_pairs (u ∷ us) = refl
