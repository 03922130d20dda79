-- Texts that are gathered once each.
use Rattle.std.proofs.Common.{◌≡◌, ◌∙◌, sym, ap, refl, List, [], ◌∷◌, ◌++◌, Bool, true, false, cond, not, filter, append-nil}
use Rattle.std.specs.Prelude.{◌||◌}
use Rattle.std.specs.Borrow.{Bor}
use Rattle.std.specs.BTreeSet.{BTreeSet}
use Rattle.std.specs.List.{list_any}
use Rattle.std.specs.Ordering.{is_eq}
use Rattle.std.specs.Str.{bytes_eq}
use Rattle.std.proofs.lemmas.List.{map-append}
use Rattle.std.proofs.lemmas.List.Elements.{filter-append}
use Rattle.std.proofs.lemmas.List.Folds.{list_any-append}
use Rattle.std.proofs.lemmas.Map.Text.{is_eq-slice_cmp}
use Rattle.std.proofs.lemmas.Slice.Eq.{bytes_eq-Decides}
use Rattle.cargo_workspaces.specs.Views.{texts}
use Rattle.cargo_workspaces.specs.Workspaces.{Text, text_cmp}
use Rattle.feats_list.specs.features.Lists.{once}
use Rattle.feats_list.specs.features.inner.Names.{AreOnce}

both : (a b : Bool) → (a ≡ true → b ≡ true) → (b ≡ true → a ≡ true) → a ≡ b
both true b f g = sym (f refl)
both false true f g = g refl
both false false f g = refl

bytes_eq-flip : (a b : Text) → bytes_eq a b ≡ bytes_eq b a
bytes_eq-flip a b = both (bytes_eq a b) (bytes_eq b a) (λ h. (bytes_eq-Decides b a).1 (sym ((bytes_eq-Decides a b).0 h))) (λ h. (bytes_eq-Decides a b).1 (sym ((bytes_eq-Decides b a).0 h)))

or_flip : (a b : Bool) → cond a true b ≡ (b || a)
or_flip true true = refl
or_flip true false = refl
or_flip false true = refl
or_flip false false = refl

or_none : (a : Bool) → (a || false) ≡ a
or_none true = refl
or_none false = refl

-- one more text in a set
any_more : (all : List Text) (x q : Text) (old new : Bool) → new ≡ cond (is_eq (text_cmp x q)) true old → old ≡ list_any (bytes_eq q) all → new ≡ list_any (bytes_eq q) (all ++ x ∷ [])
any_more all x q old new grown was =
    let one : list_any (bytes_eq q) (x ∷ []) ≡ is_eq (text_cmp x q) = or_none (bytes_eq q x) ∙ bytes_eq-flip q x ∙ sym (is_eq-slice_cmp x q) in
    grown ∙ or_flip (is_eq (text_cmp x q)) old ∙ rw (list_any-append (bytes_eq q) all (x ∷ []), one, was) refl

-- what is left of a text that is appended, if it isn't there
left_cases : (x : Text) (a b : Bool) → cond b [] (cond (not a) (x ∷ []) []) ≡ cond (a || b) [] (x ∷ [])
left_cases x true true = refl
left_cases x true false = refl
left_cases x false true = refl
left_cases x false false = refl

filter_left : (x y : Text) (b : Bool) → filter (λ u. not (bytes_eq u y)) (cond b [] (x ∷ [])) ≡ cond b [] (cond (not (bytes_eq x y)) (x ∷ []) [])
filter_left x y true = refl
filter_left x y false = refl

-- a text at the end is one more, if it isn't there
once_more : (xs : List Text) (x : Text) → once (xs ++ x ∷ []) ≡ once xs ++ cond (list_any (bytes_eq x) xs) [] (x ∷ [])
once_more [] x = refl
once_more (y ∷ ys) x =
    ap (λ zs. y ∷ filter (λ u. not (bytes_eq u y)) zs) (once_more ys x)
    ∙ ap (λ zs. y ∷ zs) (filter-append (λ u. not (bytes_eq u y)) (once ys) (cond (list_any (bytes_eq x) ys) [] (x ∷ [])))
    ∙ ap (λ zs. y ∷ (filter (λ u. not (bytes_eq u y)) (once ys) ++ zs)) (filter_left x y (list_any (bytes_eq x) ys) ∙ left_cases x (bytes_eq x y) (list_any (bytes_eq x) ys))

was_there : (new there : Bool) → new ≡ not there → new ≡ false → there ≡ true
was_there new true h k = refl
was_there new false h k = absurd (let bad : true ≡ false = sym h ∙ k in cc)

was_not_there : (new there : Bool) → new ≡ not there → new ≡ true → there ≡ false
was_not_there new false h k = refl
was_not_there new true h k = absurd (let bad : false ≡ true = sym h ∙ k in cc)

-- a name that is new
pub once_new : (all : List Text) (old new : BTreeSet (Bor Text)) (names more : List (Bor Text)) (x : Bor Text) (added : Bool)
    → ((q : Bor Text) → list_any (λ k. is_eq (text_cmp q.now k.now)) new.keys ≡ cond (is_eq (text_cmp x.now q.now)) true (list_any (λ k. is_eq (text_cmp q.now k.now)) old.keys))
    → added ≡ not (list_any (λ k. is_eq (text_cmp x.now k.now)) old.keys) → added ≡ true → more ≡ names ++ x ∷ [] → AreOnce all old names → AreOnce (all ++ x.now ∷ []) new more
once_new all old new names more x added grown says is_new pushed was =
    let none : list_any (bytes_eq x.now) all ≡ false = sym (was.are_seen x) ∙ was_not_there added _ says is_new in
    record {
      are_seen = λ q. any_more all x.now q.now _ _ (grown q) (was.are_seen q);
      are_once = ap texts pushed ∙ map-append (λ t. t.now) names (x ∷ []) ∙ ap (λ ts. ts ++ x.now ∷ []) was.are_once ∙ sym (once_more all x.now ∙ ap (λ b. once all ++ cond b [] (x.now ∷ [])) none);
    }

-- a name that is there
pub once_same : (all : List Text) (old new : BTreeSet (Bor Text)) (names : List (Bor Text)) (x : Bor Text) (added : Bool)
    → ((q : Bor Text) → list_any (λ k. is_eq (text_cmp q.now k.now)) new.keys ≡ cond (is_eq (text_cmp x.now q.now)) true (list_any (λ k. is_eq (text_cmp q.now k.now)) old.keys))
    → added ≡ not (list_any (λ k. is_eq (text_cmp x.now k.now)) old.keys) → added ≡ false → AreOnce all old names → AreOnce (all ++ x.now ∷ []) new names
once_same all old new names x added grown says is_old was =
    let there : list_any (bytes_eq x.now) all ≡ true = sym (was.are_seen x) ∙ was_there added _ says is_old in
    record {
      are_seen = λ q. any_more all x.now q.now _ _ (grown q) (was.are_seen q);
      are_once = was.are_once ∙ sym (once_more all x.now ∙ ap (λ b. once all ++ cond b [] (x.now ∷ [])) there ∙ append-nil (once all));
    }
