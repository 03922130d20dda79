-- Two lists that are read together, pair by pair.
use Rattle.std.proofs.Common.{◌≡◌, ◌∙◌, sym, ap, refl, List, [], ◌∷◌, ◌++◌, map}
use Rattle.std.specs.Prelude.{zip}
use Rattle.std.proofs.lemmas.List.{append-nil}

no_pairs : {A B : Type 0} (xs : List A) → zip {X = B} xs [] ≡ []
no_pairs [] = refl
no_pairs (x ∷ xs) = refl

module _ {A B C : Type 0} (f : A × B → C) (xs : List A) (ys : List B) (done whole : List C) (so : whole ≡ done ++ map f (zip xs ys)) where
  pub first_ended : xs ≡ [] → done ≡ whole
  first_ended e = sym (so ∙ rw e (append-nil done))

  pub second_ended : ys ≡ [] → done ≡ whole
  second_ended e = sym (so ∙ ap (λ (zs : List B). done ++ map f (zip xs zs)) e ∙ ap (λ (ps : List (A × B)). done ++ map f ps) (no_pairs xs) ∙ append-nil done)

module _ {A B : Type 0} (xs : List A) (ys : List B) (done whole : List (A × B)) (so : whole ≡ done ++ zip xs ys) where
  pub first_pair_ended : xs ≡ [] → done ≡ whole
  first_pair_ended e = sym (so ∙ rw e (append-nil done))

  pub second_pair_ended : ys ≡ [] → done ≡ whole
  second_pair_ended e = sym (so ∙ ap (λ (zs : List B). done ++ zip xs zs) e ∙ ap (λ (ps : List (A × B)). done ++ ps) (no_pairs xs) ∙ append-nil done)

-- both lists are made of one
pub zip_maps : {A B C D : Type 0} (f : A × B → C) (g : D → A) (h : D → B) (k : D → C) → ((x : D) → f (g x, h x) ≡ k x) → (xs : List D) → map f (zip (map g xs) (map h xs)) ≡ map k xs
zip_maps f g h k same [] = refl
zip_maps f g h k same (x ∷ xs) = ap (λ z. z ∷ map f (zip (map g xs) (map h xs))) (same x) ∙ ap (λ zs. k x ∷ zs) (zip_maps f g h k same xs)
