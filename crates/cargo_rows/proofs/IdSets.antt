-- Ids as a set, one after the other.
use Rattle.std.proofs.Common.{◌≡◌, ◌∙◌, sym, ap, refl, ℕ, ◌+◌, ◌<◌, List, [], ◌∷◌, ◌++◌, map, length, take, get_or, Bool, true, false, cond, Bor}
use Rattle.std.specs.Prelude.{◌||◌}
use Rattle.std.specs.List.{list_any}
use Rattle.std.specs.Ordering.{is_eq}
use Rattle.std.specs.Str.{bytes_eq}
use Rattle.std.proofs.lemmas.List.{take_more, map-append}
use Rattle.std.proofs.lemmas.List.Folds.{list_any-append}
use Rattle.std.proofs.lemmas.Map.Text.{is_eq-slice_cmp}
use Rattle.std.proofs.lemmas.Slice.Eq.{bytes_eq-Decides}
use Rattle.cargo_json.specs.Faults.{Text}
use Rattle.workspace_documents.specs.Lists.{id_cmp}
use Rattle.workspace_documents.specs.Views.{text_view}

both : (a b : Bool) → (a ≡ true → b ≡ true) → (b ≡ true → a ≡ true) → a ≡ b
both true b f g = sym (f refl)
both false true f g = g refl
both false false f g = refl

bytes_eq-flip : (a b : Text) → bytes_eq a b ≡ bytes_eq b a
bytes_eq-flip a b = both (bytes_eq a b) (bytes_eq b a) (λ h. (bytes_eq-Decides b a).1 (sym ((bytes_eq-Decides a b).0 h))) (λ h. (bytes_eq-Decides a b).1 (sym ((bytes_eq-Decides b a).0 h)))

or_flip : (a b : Bool) → cond a true b ≡ (b || a)
or_flip true true = refl
or_flip true false = refl
or_flip false true = refl
or_flip false false = refl

or_none : (a : Bool) → (a || false) ≡ a
or_none true = refl
or_none false = refl

-- inserting the text at `i` into a set of the first `i` texts
pub text_more : (ids : List (Bor Text)) (i : ℕ) (z : Bor Text) (q : Text) (old new : Bool) → i < length ids → new ≡ cond (is_eq (id_cmp (get_or ids i z).now q)) true old → old ≡ list_any (bytes_eq q) (map text_view (take i ids)) → new ≡ list_any (bytes_eq q) (map text_view (take (i + 1) ids))
text_more ids i z q old new within grown was =
    let x = (get_or ids i z).now in
    let more : map text_view (take (i + 1) ids) ≡ map text_view (take i ids) ++ x ∷ [] = ap (map text_view) (take_more ids i z within) ∙ map-append text_view (take i ids) (get_or ids i z ∷ []) in
    let one : list_any (bytes_eq q) (x ∷ []) ≡ is_eq (id_cmp x q) = or_none (bytes_eq q x) ∙ bytes_eq-flip q x ∙ sym (is_eq-slice_cmp x q) in
    grown ∙ or_flip (is_eq (id_cmp x q)) old ∙ rw (more, list_any-append (bytes_eq q) (map text_view (take i ids)) (x ∷ []), one, was) refl
