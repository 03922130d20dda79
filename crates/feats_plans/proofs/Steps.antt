-- A list that is read element by element, each of which is seen as another value.
use Rattle.std.proofs.Common.{◌≡◌, ◌∙◌, sym, ap, refl, ℕ, ◌+◌, ◌<◌, List, [], ◌∷◌, ◌++◌, map, length, take, drop, get_or, add-one, drop-cons, Bor}
use Rattle.std.specs.Prelude.{Option, Some, None}
use Rattle.std.proofs.lemmas.List.{map-append, take_more, take-append-drop}
use Rattle.cargo_workspaces.specs.Workspaces.{Text}
use Rattle.workspace_documents.specs.Lists.{first_some}
use Rattle.workspace_documents.specs.Views.{text_view}
use Rattle.feats_plans.specs.numbered_workspaces.Numbers.{number_of}

module _ {X Z : Type 0} (view : X → Z) (xs : List X) (i : ℕ) (x : X) (within : i < length xs) (is : x ≡ get_or xs i x) where
  pub left_is : map view (drop i xs) ≡ view x ∷ map view (drop (i + 1) xs)
  left_is =
      let at : drop i xs ≡ get_or xs i x ∷ drop (i + 1) xs = rw (add-one, drop-cons xs i x within) refl in
      ap (map view) at ∙ ap (λ (y : X). view y ∷ map view (drop (i + 1) xs)) (sym is)

  pub done_is : map view (take (i + 1) xs) ≡ map view (take i xs) ++ view x ∷ []
  done_is =
      let more : take (i + 1) xs ≡ take i xs ++ x ∷ [] = take_more xs i x within ∙ ap (λ (y : X). take i xs ++ y ∷ []) (sym is) in
      ap (map view) more ∙ map-append view (take i xs) (x ∷ [])

  pub split_is : map view xs ≡ map view (take i xs) ++ view x ∷ map view (drop (i + 1) xs)
  split_is = ap (map view) (sym (take-append-drop i xs)) ∙ map-append view (take i xs) (drop i xs) ∙ ap (λ (zs : List Z). map view (take i xs) ++ zs) left_is

  module _ {Y : Type 0} (f : Z → Option Y) (whole : Option Y) (so : whole ≡ first_some (map f (map view (drop i xs)))) where
    here : whole ≡ first_some (f (view x) ∷ map f (map view (drop (i + 1) xs)))
    here = so ∙ ap (λ (zs : List Z). first_some (map f zs)) left_is

    pub first_later : f (view x) ≡ None → whole ≡ first_some (map f (map view (drop (i + 1) xs)))
    first_later h = here ∙ ap (λ (o : Option Y). first_some (o ∷ map f (map view (drop (i + 1) xs)))) h

    pub first_here : (y : Y) → f (view x) ≡ Some y → whole ≡ Some y
    first_here y h = here ∙ ap (λ (o : Option Y). first_some (o ∷ map f (map view (drop (i + 1) xs)))) h

-- one more number
pub numbers_more : (ids : List Text) (named : List (Bor Text)) (i : ℕ) (z : Bor Text) (done : List ℕ) (n : ℕ) → i < length named → done ≡ map (number_of ids) (map text_view (take i named)) → n ≡ number_of ids (get_or named i z).now → done ++ n ∷ [] ≡ map (number_of ids) (map text_view (take (i + 1) named))
numbers_more ids named i z done n within so is =
    let seen : map text_view (take (i + 1) named) ≡ map text_view (take i named) ++ (get_or named i z).now ∷ [] = ap (map text_view) (take_more named i z within) ∙ map-append text_view (take i named) (get_or named i z ∷ []) in
    let all : map (number_of ids) (map text_view (take (i + 1) named)) ≡ map (number_of ids) (map text_view (take i named)) ++ number_of ids (get_or named i z).now ∷ [] = ap (map (number_of ids)) seen ∙ map-append (number_of ids) (map text_view (take i named)) ((get_or named i z).now ∷ []) in
    rw (so, is) (sym all)
