-- Spec texts that are inserted, one by one.
use Rattle.std.proofs.Common.{◌≡◌, ℕ, List, [], ◌∷◌, ◌++◌, ◌+◌, ◌<◌, ◌≤◌, length, get_or, map, take, Option, None, Some, refl, ap, sym, ◌∙◌, append_assoc}
use Rattle.std.specs.Prelude.{filter_map, flat_map, slice_get}
use Rattle.std.specs.List.{cons_option}
use Rattle.std.specs.Option.{option_map}
use Rattle.std.proofs.lemmas.List.{append-nil, flat_map_more, take_all, take_more}
use Rattle.std.proofs.lemmas.Option.{slice_get-get_or}
use Rattle.std.proofs.lemmas.List.Elements.{filter_map-append}
use Rattle.guppy_packages.specs.Rows.{Text}

-- a platform without a spec, and one with a spec
pub none_added : (p : Option Text) (before : List Text) → None ≡ option_map (λ (spec : Text). spec ∷ []) p → before ++ cons_option p [] ≡ before
none_added None before e = append-nil before
none_added (Some spec) before e = cc

pub one_added : (texts : List Text) (p : Option Text) → Some texts ≡ option_map (λ (spec : Text). spec ∷ []) p → texts ≡ cons_option p []
one_added texts None e = cc
one_added texts (Some spec) e = cc

module _ {X Y : Type 0} (f : X → Option Y) where
  -- one more element
  pub options_more : (before : List Y) (xs : List X) (i : ℕ) (x : X) → i < length xs → x ≡ get_or xs i x → (before ++ filter_map f (take i xs)) ++ cons_option (f x) [] ≡ before ++ filter_map f (take (i + 1) xs)
  options_more before xs i x l is =
      append_assoc before (filter_map f (take i xs)) (cons_option (f x) [])
      ∙ ap (λ z. before ++ z) (sym (filter_map-append f (take i xs) (x ∷ [])))
      ∙ ap (λ z. before ++ filter_map f (take i xs ++ z ∷ [])) is
      ∙ ap (λ z. before ++ filter_map f z) (sym (take_more xs i x l))

-- those before the end are all, seen as another list
pub options_all : {X Y Z : Type 0} (f : Y → Option Z) (g : X → Y) (xs : List X) (ys : List Y) (n : ℕ) → length xs ≤ n → map g xs ≡ ys → filter_map (λ x. f (g x)) (take n xs) ≡ filter_map f ys
options_all f g xs ys n l e = ap (filter_map (λ x. f (g x))) (take_all n xs l) ∙ mapped xs ∙ ap (filter_map f) e
  where
    mapped : (zs : List _) → filter_map (λ x. f (g x)) zs ≡ filter_map f (map g zs)
    mapped [] = refl
    mapped (z ∷ zs) = ap (cons_option (f (g z))) (mapped zs)

same_some : {X : Type 0} (x y : X) → ◌≡◌ {A = Option X} (Some x) (Some y) → x ≡ y
same_some x y h = cc

-- the lists of one more element
pub lists_more : {X Y : Type 0} (f : X → List Y) (xs : List X) (i : ℕ) (x : X) → i < length xs → slice_get xs i ≡ Some x → flat_map f (take i xs) ++ f x ≡ flat_map f (take (i + 1) xs)
lists_more f xs i x l at =
    flat_map_more f [] (take i xs) x
    ∙ ap (λ z. flat_map f (take i xs ++ z ∷ [])) (same_some x (get_or xs i x) (sym at ∙ slice_get-get_or xs i x l))
    ∙ ap (flat_map f) (sym (take_more xs i x l))
