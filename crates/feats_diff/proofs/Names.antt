-- Sets of names.
use Rattle.std.proofs.Common.{Bor, Result, Ok, Err, filter, not, ap, ◌≡◌, ◌∙◌, sym, refl, List, [], ◌∷◌, ◌++◌, Bool, true, false, cond}
use Rattle.std.specs.Prelude.{◌||◌, IfOk}
use Rattle.std.specs.List.{list_any}
use Rattle.std.specs.Ordering.{is_eq}
use Rattle.std.specs.Str.{bytes_eq}
use Rattle.std.proofs.lemmas.List.Folds.{list_any-append}
use Rattle.std.proofs.lemmas.Map.Text.{is_eq-slice_cmp}
use Rattle.std.proofs.lemmas.Slice.Eq.{bytes_eq-Decides}
use Rattle.std.specs.BTreeSet.{BTreeSet}
use Rattle.cargo_workspaces.specs.Views.{texts}
use Rattle.cargo_workspaces.specs.Workspaces.{Text, text_cmp}
use Rattle.feats_diff.specs.changes.inner.Names.{HasNames, is_in}

both : (a b : Bool) → (a ≡ true → b ≡ true) → (b ≡ true → a ≡ true) → a ≡ b
both true b f g = sym (f refl)
both false true f g = g refl
both false false f g = refl

bytes_eq-flip : (a b : Text) → bytes_eq a b ≡ bytes_eq b a
bytes_eq-flip a b = both (bytes_eq a b) (bytes_eq b a) (λ h. (bytes_eq-Decides b a).1 (sym ((bytes_eq-Decides a b).0 h))) (λ h. (bytes_eq-Decides a b).1 (sym ((bytes_eq-Decides b a).0 h)))

or_flip : (a b : Bool) → cond a true b ≡ (b || a)
or_flip true true = refl
or_flip true false = refl
or_flip false true = refl
or_flip false false = refl

or_none : (a : Bool) → (a || false) ≡ a
or_none true = refl
or_none false = refl

-- one more name
pub any_more : (names : List Text) (x q : Text) (old new : Bool) → new ≡ cond (is_eq (text_cmp x q)) true old → old ≡ list_any (bytes_eq q) names → new ≡ list_any (bytes_eq q) (names ++ x ∷ [])
any_more names x q old new grown was =
    let one : list_any (bytes_eq q) (x ∷ []) ≡ is_eq (text_cmp x q) = or_none (bytes_eq q x) ∙ bytes_eq-flip q x ∙ sym (is_eq-slice_cmp x q) in
    grown ∙ or_flip (is_eq (text_cmp x q)) old ∙ rw (list_any-append (bytes_eq q) names (x ∷ []), one, was) refl

-- names of which each passes both tests or neither
filtered : (p q : Text → Bool) (names : List (Bor Text)) → ((x : Bor Text) → p x.now ≡ q x.now) → filter p (texts names) ≡ filter q (texts names)
filtered p q [] h = refl
filtered p q (x ∷ xs) h = ap (λ b. cond b (x.now ∷ filter p (texts xs)) (filter p (texts xs))) (h x) ∙ ap (λ rest. cond (q x.now) (x.now ∷ rest) rest) (filtered p q xs h)

pub those_in : (set : BTreeSet (Bor Text)) (others : List Text) (names : List (Bor Text)) → HasNames set others → filter (is_in set) (texts names) ≡ filter (λ name. list_any (bytes_eq name) others) (texts names)
those_in set others names h = filtered (is_in set) (λ name. list_any (bytes_eq name) others) names h

pub those_not_in : (set : BTreeSet (Bor Text)) (others : List Text) (names : List (Bor Text)) → HasNames set others
    → filter (λ name. not (is_in set name)) (texts names) ≡ filter (λ name. not (list_any (bytes_eq name) others)) (texts names)
those_not_in set others names h = filtered (λ name. not (is_in set name)) (λ name. not (list_any (bytes_eq name) others)) names (λ x. ap not (h x))

-- what follows from a value
pub ok_with : {X E : Type 0} (P Q : X → Type 0) (r : Result X E) → IfOk r P → ((x : X) → P x → Q x) → IfOk r Q
ok_with P Q (Ok x) p f = f x p
ok_with P Q (Err e) p f = tt
