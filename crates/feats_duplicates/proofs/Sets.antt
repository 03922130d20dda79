-- Sets to which texts are added.
use Rattle.std.proofs.Common.{◌≡◌, ◌∙◌, sym, ap, refl, ℕ, ◌+◌, ◌<◌, List, [], ◌∷◌, ◌++◌, map, flat_map, length, take, get_or, Bool, true, false, cond, append_assoc}
use Rattle.std.specs.Prelude.{◌||◌}
use Rattle.std.specs.Borrow.{Bor}
use Rattle.std.specs.List.{list_any}
use Rattle.std.specs.Ordering.{is_eq}
use Rattle.std.specs.Str.{bytes_eq}
use Rattle.std.proofs.lemmas.List.{append-nil, take_more, map-append}
use Rattle.std.proofs.lemmas.List.Folds.{list_any-append}
use Rattle.std.proofs.lemmas.Map.Text.{is_eq-slice_cmp}
use Rattle.std.proofs.lemmas.Slice.Eq.{bytes_eq-Decides}
use Rattle.cargo_workspaces.specs.Views.{texts}
use Rattle.cargo_workspaces.specs.Workspaces.{Text, text_cmp}

pub both : (a b : Bool) → (a ≡ true → b ≡ true) → (b ≡ true → a ≡ true) → a ≡ b
both true b f g = sym (f refl)
both false true f g = g refl
both false false f g = refl

bytes_eq-flip : (a b : Text) → bytes_eq a b ≡ bytes_eq b a
bytes_eq-flip a b = both (bytes_eq a b) (bytes_eq b a) (λ h. (bytes_eq-Decides b a).1 (sym ((bytes_eq-Decides a b).0 h))) (λ h. (bytes_eq-Decides a b).1 (sym ((bytes_eq-Decides b a).0 h)))

or_flip : (a b : Bool) → cond a true b ≡ (b || a)
or_flip true true = refl
or_flip true false = refl
or_flip false true = refl
or_flip false false = refl

or_none : (a : Bool) → (a || false) ≡ a
or_none true = refl
or_none false = refl

-- one more text
pub any_more : (names : List Text) (x q : Text) (old new : Bool) → new ≡ cond (is_eq (text_cmp x q)) true old → old ≡ list_any (bytes_eq q) names → new ≡ list_any (bytes_eq q) (names ++ x ∷ [])
any_more names x q old new grown was =
    let one : list_any (bytes_eq q) (x ∷ []) ≡ is_eq (text_cmp x q) = or_none (bytes_eq q x) ∙ bytes_eq-flip q x ∙ sym (is_eq-slice_cmp x q) in
    grown ∙ or_flip (is_eq (text_cmp x q)) old ∙ rw (list_any-append (bytes_eq q) names (x ∷ []), one, was) refl

-- the texts up to the next one
pub texts_more : (names : List Text) (features : List (Bor Text)) (i : ℕ) (d : Bor Text) → i < length features
    → (names ++ texts (take i features)) ++ (get_or features i d).now ∷ [] ≡ names ++ texts (take (i + 1) features)
texts_more names features i d within =
    append_assoc names (texts (take i features)) ((get_or features i d).now ∷ [])
    ∙ ap (λ z. names ++ z) (sym (ap texts (take_more features i d within) ∙ map-append (λ (t : Bor Text). t.now) (take i features) (get_or features i d ∷ [])))

flat_map-append : {Y Z : Type 0} (f : Y → List Z) (xs ys : List Y) → flat_map f (xs ++ ys) ≡ flat_map f xs ++ flat_map f ys
flat_map-append f [] ys = refl
flat_map-append f (x ∷ xs) ys = ap (λ z. f x ++ z) (flat_map-append f xs ys) ∙ sym (append_assoc (f x) (flat_map f xs) (flat_map f ys))

-- the texts of the rows up to the next one
pub joined_more : {X Y Z : Type 0} (g : X → Y) (f : Y → List Z) (xs : List X) (i : ℕ) (x : X) → i < length xs → x ≡ get_or xs i x
    → flat_map f (map g (take i xs)) ++ f (g x) ≡ flat_map f (map g (take (i + 1) xs))
joined_more g f xs i x within is = sym (
    ap (λ ys. flat_map f (map g ys)) (take_more xs i x within)
    ∙ ap (flat_map f) (map-append g (take i xs) (get_or xs i x ∷ []))
    ∙ flat_map-append f (map g (take i xs)) (g (get_or xs i x) ∷ [])
    ∙ ap (λ z. flat_map f (map g (take i xs)) ++ z) (append-nil (f (g (get_or xs i x))))
    ∙ ap (λ y. flat_map f (map g (take i xs)) ++ f (g y)) (sym is))
