-- What marking keeps true.
use Rattle.std.proofs.Common.{◌≡◌, ◌∙◌, ◌⊎◌, ◌<◌, ◌≤◌, ◌+◌, ℕ, zero, suc, inl, inr, ⊎_elim, refl, ap, sym, subst, List, [], ◌∷◌, ◌++◌, length, set, get_or, replicate, take, Bool, true, false, Contains, IsTrue, arith, get_or-set_same, get_or-set_other, length-set, le_of_suc-le-suc, not-suc-le-zero}
use Rattle.std.specs.Prelude.{Some, None, Option, slice_get}
use Rattle.std.specs.Option.{option_map_or}
use Rattle.std.specs.Borrow.{Bor}
use Rattle.std.proofs.lemmas.Bool.{cases_eq}
use Rattle.std.proofs.lemmas.List.{length-replicate, length_push, take_all}
use Rattle.std.proofs.lemmas.List.Elements.{Contains-append_left, Contains-append_right, Contains-get_or, Contains-push, Contains-push_cases}
use Rattle.std.proofs.lemmas.Option.{get_or_from_slice_get, slice_get-get_or, slice_get_within}
use Rattle.cargo_workspaces.specs.Views.{texts}
use Rattle.cargo_workspaces.specs.Workspaces.{FeatureText, Text}
use Rattle.feats_unused.specs.Used.{IsUsed, by_feature, by_request, turned_on}
use Rattle.feats_unused.specs.inner.Marks.{AreUsed, HasName, IsMarked, Marks, blanks, flag}
use Rattle.feats_unused.proofs.Lists.{texts_more}

pub none_in : {X : Type 0} (x : X) → Contains [] x → ⊥
none_in x c = not-suc-le-zero c.1

pub first_in : {X : Type 0} (x : X) (xs : List X) → Contains (x ∷ xs) x
first_in x xs = Contains-append_left (x ∷ []) xs x (Contains-push [] x)

pub marks_none : (May : ℕ → Type 0) (flags : List Bool) (found : List ℕ) → Marks May flags flags found found
marks_none May flags found = record {
  size = refl;
  kept = λ k h. h;
  may = λ k h. inl h;
  appended = λ k c. inl c;
  stays = λ k c. c;
  has_new = λ k h. inl h;
  fewer = refl;
}

pub marks_by : (May Any : ℕ → Type 0) (a b : List Bool) (x y : List ℕ) → ((k : ℕ) → May k → Any k) → Marks May a b x y → Marks Any a b x y
marks_by May Any a b x y wider m = record {
  size = m.size;
  kept = m.kept;
  may = λ k h. ⊎_elim (λ q. inl q) (λ q. inr (wider k q)) (m.may k h);
  appended = m.appended;
  stays = m.stays;
  has_new = m.has_new;
  fewer = m.fewer;
}

pub marks_on : (May : ℕ → Type 0) (a b c : List Bool) (x y z : List ℕ) → Marks May a b x y → Marks May b c y z → Marks May a c x z
marks_on May a b c x y z g h = record {
  size = h.size ∙ g.size;
  kept = λ k e. h.kept k (g.kept k e);
  may = λ k e. ⊎_elim (λ q. g.may k q) (λ q. inr q) (h.may k e);
  appended = λ k e. ⊎_elim (λ q. ⊎_elim (λ p. inl p) (λ p. inr (h.kept k p)) (g.appended k q)) (λ q. inr q) (h.appended k e);
  stays = λ k e. h.stays k (g.stays k e);
  has_new = λ k e. ⊎_elim (λ q. ⊎_elim (λ p. inl p) (λ p. inr (h.stays k p)) (g.has_new k q)) (λ q. inr q) (h.has_new k e);
  fewer = h.fewer ∙ g.fewer;
}

blanks_set : (flags : List Bool) (k : ℕ) → flag flags k ≡ false → k < length flags → suc (blanks (set flags k true)) ≡ blanks flags
blanks_set [] k off within = absurd (not-suc-le-zero within)
blanks_set (false ∷ fs) zero off within = refl
blanks_set (true ∷ fs) zero off within = cc
blanks_set (false ∷ fs) (suc k) off within = ap suc (blanks_set fs k off (le_of_suc-le-suc within))
blanks_set (true ∷ fs) (suc k) off within = blanks_set fs k off (le_of_suc-le-suc within)

-- one feature was marked
pub marks_one : (flags : List Bool) (found : List ℕ) (k : ℕ) → k < length flags → flag flags k ≡ false → Marks (λ j. j ≡ k) flags (set flags k true) found (found ++ k ∷ [])
marks_one flags found k within off = record {
  size = length-set flags k true;
  kept = λ j h. ⊎_elim (λ e. on j e) (λ ne. other j ne ∙ h) (cases_eq j k);
  may = λ j h. ⊎_elim (λ e. inr e) (λ ne. inl (sym (other j ne) ∙ h)) (cases_eq j k);
  appended = λ j c. ⊎_elim (λ h. inl h) (λ e. inr (on j (sym e))) (Contains-push_cases found k j c);
  stays = λ j c. Contains-append_left found (k ∷ []) j c;
  has_new = λ j h. ⊎_elim (λ e. inr (subst (λ z. Contains (found ++ k ∷ []) z) (sym e) (Contains-push found k))) (λ ne. inl (sym (other j ne) ∙ h)) (cases_eq j k);
  fewer = let less : suc (blanks new) ≡ blanks flags = blanks_set flags k off within in let longer : length (found ++ k ∷ []) ≡ length found + 1 = length_push found k in omega arith;
}
  where
    new : List Bool
    new = set flags k true

    here : flag new k ≡ true
    here = get_or-set_same flags k true false within

    on : (j : ℕ) → j ≡ k → flag new j ≡ true
    on j e = subst (λ z. flag new z ≡ true) (sym e) here

    other : (j : ℕ) → (j ≡ k → ⊥) → flag new j ≡ flag flags j
    other j ne = get_or-set_other flags k j true false ne

-- features stay marked
pub marked_on : (features : List FeatureText) (May : ℕ → Type 0) (a b : List Bool) (x y : List ℕ) (n : Text) → Marks May a b x y → IsMarked features a n → IsMarked features b n
marked_on features May a b x y n m old = λ k f at is. m.kept k (old k f at is)

-- one more name
pub marked_more : (features : List FeatureText) (names : List (Bor Text)) (i : ℕ) (d : Bor Text) (May : ℕ → Type 0) (a b : List Bool) (x y : List ℕ) → i < length names
    → ((n : Text) → Contains (texts (take i names)) n → IsMarked features a n) → Marks May a b x y → IsMarked features b (get_or names i d).now
    → (n : Text) → Contains (texts (take (i + 1) names)) n → IsMarked features b n
marked_more features names i d May a b x y within old m here n c = ⊎_elim
    (λ was. marked_on features May a b x y n m (old n was))
    (λ e. subst (IsMarked features b) e here)
    (Contains-push_cases (texts (take i names)) (get_or names i d).now n (subst (λ z. Contains z n) (sym (texts_more names i d within)) c))

pub all_marked : (features : List FeatureText) (names : List (Bor Text)) (i : ℕ) (a : List Bool) → length names ≤ i
    → ((n : Text) → Contains (texts (take i names)) n → IsMarked features a n) → (n : Text) → Contains (texts names) n → IsMarked features a n
all_marked features names i a past all n c = all n (subst (λ z. Contains (texts z) n) (sym (take_all i names past)) c)

later : {X : Type 0} (y : X) (ys : List X) (z : X) → Contains ys z → Contains (y ∷ ys) z
later y ys z c = Contains-append_right (y ∷ []) ys z c

in_texts : (ns : List (Bor Text)) (j : ℕ) (e : Bor Text) → j < length ns → Contains (texts ns) (get_or ns j e).now
in_texts [] j e inside = absurd (not-suc-le-zero inside)
in_texts (n ∷ ns) zero e inside = first_in n.now (texts ns)
in_texts (n ∷ ns) (suc j) e inside = later n.now (texts ns) (get_or ns j e).now (in_texts ns j e (le_of_suc-le-suc inside))

-- the name that is marked is one of the names
pub wider_name : (features : List FeatureText) (names : List (Bor Text)) (i : ℕ) (d : Bor Text) → i < length names → (k : ℕ) → HasName features ((get_or names i d).now ∷ []) k → HasName features (texts names) k
wider_name features names i d within k h =
    (h.0, h.1, ⊎_elim (λ was. absurd (none_in h.0.name was)) (λ e. subst (Contains (texts names)) e (in_texts names i d within)) (Contains-push_cases [] (get_or names i d).now h.0.name h.2))

-- one feature with the name
pub only_name : (features : List FeatureText) (n : Text) (i : ℕ) → (f : FeatureText) × (slice_get features i ≡ Some f) × (f.name ≡ n) → (k : ℕ) → k ≡ i → HasName features (n ∷ []) k
only_name features n i g k e = subst (HasName features (n ∷ [])) (sym e) (g.0, g.1, subst (Contains (n ∷ [])) (sym g.2) (first_in n []))

-- what a walk over the features that others turn on keeps true
pub record IsWalked (asked : List Text) (features : List FeatureText) (used : List Bool) (waiting : List ℕ) : Type 0 where
  pub size : length used ≡ length features
  pub sound : (k : ℕ) (f : FeatureText) → slice_get features k ≡ Some f → IsTrue (flag used k) → IsUsed asked features f.name
  pub begun : (n : Text) → Contains asked n → IsMarked features used n
  pub waits : (k : ℕ) → Contains waiting k → IsTrue (flag used k)
  pub closed : (k : ℕ) (f : FeatureText) → slice_get features k ≡ Some f → IsTrue (flag used k) → Contains waiting k ⊎ ((n : Text) → Contains (turned_on f) n → IsMarked features used n)

flag_blank : (count k : ℕ) → IsTrue (flag (replicate count false) k) → ⊥
flag_blank zero k h = cc
flag_blank (suc count) zero h = cc
flag_blank (suc count) (suc k) h = flag_blank count k h

one_feature : (features : List FeatureText) (k : ℕ) (f g : FeatureText) → slice_get features k ≡ Some f → slice_get features k ≡ Some g → f ≡ g
one_feature features k f g a b = cc

-- the features that were asked for
pub walk_begun : (asked : List Text) (features : List FeatureText) (count : ℕ) (used : List Bool) (waiting : List ℕ) → count ≡ length features → Marks (HasName features asked) (replicate count false) used [] waiting
    → ((n : Text) → Contains asked n → IsMarked features used n) → IsWalked asked features used waiting
walk_begun asked features count used waiting long m all = record {
  size = m.size ∙ length-replicate count false ∙ long;
  sound = λ k f at h. ⊎_elim (λ q. absurd (flag_blank count k q)) (λ q. by_request f.name (subst (λ z. Contains asked z.name) (one_feature features k q.0 f q.1 at) q.2)) (m.may k h);
  begun = all;
  waits = λ k c. ⊎_elim (λ q. absurd (none_in k q)) (λ q. q) (m.appended k c);
  closed = λ k f at h. ⊎_elim (λ q. absurd (flag_blank count k q)) (λ q. inl q) (m.has_new k h);
}

at_place : (features : List FeatureText) (k : ℕ) (f : FeatureText) → slice_get features k ≡ Some f → Contains features f
at_place features k f at = let within = slice_get_within features k f at in subst (Contains features) (get_or_from_slice_get features k f f at) (Contains-get_or features k f within)

-- the features that feature `k` turns on
abbrev pub names_at : List FeatureText → ℕ → List Text
names_at features k = option_map_or turned_on (slice_get features k) []

by_option : {X Q : Type 0} (o : Option X) → (o ≡ None → Q) → ((x : X) → o ≡ Some x → Q) → Q
by_option None f g = f refl
by_option (Some x) f g = g x refl

-- one more feature, and those that it turns on
pub walked_on : (asked : List Text) (features : List FeatureText) (names : List Text) (k : ℕ) (used new : List Bool) (before waiting after : List ℕ) → before ≡ waiting ++ k ∷ [] → names ≡ names_at features k
    → IsWalked asked features used before → Marks (HasName features names) used new waiting after → ((n : Text) → Contains names n → IsMarked features new n) → IsWalked asked features new after
walked_on asked features names k used new before waiting after popped is w m all = record {
  size = m.size ∙ w.size;
  sound = λ j f at h. ⊎_elim (λ q. w.sound j f at q) (λ q. subst (λ z. IsUsed asked features z.name) (one_feature features j q.0 f q.1 at) (turned q.0.name q.2)) (m.may j h);
  begun = λ n c. marked_on features (HasName features names) used new waiting after n m (w.begun n c);
  waits = λ j c. ⊎_elim (λ q. m.kept j (w.waits j (was_waiting j q))) (λ q. q) (m.appended j c);
  closed = λ j f at h. ⊎_elim (λ q. was_closed j f at (w.closed j f at q)) (λ q. inl q) (m.has_new j h);
}
  where
    was_waiting : (j : ℕ) → Contains waiting j → Contains before j
    was_waiting j c = subst (λ z. Contains z j) (sym popped) (Contains-append_left waiting (k ∷ []) j c)

    used_itself : (g : FeatureText) → slice_get features k ≡ Some g → IsUsed asked features g.name
    used_itself g at = w.sound k g at (w.waits k (subst (λ z. Contains z k) (sym popped) (Contains-push waiting k)))

    turned : (n : Text) → Contains names n → IsUsed asked features n
    turned n c = by_option (slice_get features k)
        (λ none. absurd (none_in n (subst (λ z. Contains z n) (is ∙ ap (λ o. option_map_or turned_on o []) none) c)))
        (λ g at. by_feature g n (at_place features k g at) (used_itself g at) (subst (λ z. Contains z n) (is ∙ ap (λ o. option_map_or turned_on o []) at) c))

    now_closed : (f : FeatureText) → slice_get features k ≡ Some f → (n : Text) → Contains (turned_on f) n → IsMarked features new n
    now_closed f at n c = all n (subst (λ z. Contains z n) (sym (is ∙ ap (λ o. option_map_or turned_on o []) at)) c)

    was_closed : (j : ℕ) (f : FeatureText) → slice_get features j ≡ Some f → Contains before j ⊎ ((n : Text) → Contains (turned_on f) n → IsMarked features used n)
        → Contains after j ⊎ ((n : Text) → Contains (turned_on f) n → IsMarked features new n)
    was_closed j f at (inr done) = inr (λ n c. marked_on features (HasName features names) used new waiting after n m (done n c))
    was_closed j f at (inl c) = ⊎_elim
        (λ q. inl (m.stays j q))
        (λ e. inr (now_closed f (subst (λ z. slice_get features z ≡ Some f) (sym e) at)))
        (Contains-push_cases waiting k j (subst (λ z. Contains z j) popped c))

-- fewer features are unmarked, or wait
pub fewer_left : (May : ℕ → Type 0) (used new : List Bool) (before waiting after : List ℕ) (k : ℕ) → before ≡ waiting ++ k ∷ [] → Marks May used new waiting after → blanks new + length after < blanks used + length before
fewer_left May used new before waiting after k popped m =
    let longer : length before ≡ length waiting + 1 = ap length popped ∙ length_push waiting k in
    let same : blanks new + length after ≡ blanks used + length waiting = m.fewer in
    omega arith

place_of : (features : List FeatureText) (f : FeatureText) → Contains features f → (k : ℕ) × (slice_get features k ≡ Some f)
place_of features f c = (c.0, slice_get-get_or features c.0 f c.1 ∙ ap Some c.2)

-- nothing waits: exactly the used features are marked
module _ (asked : List Text) (features : List FeatureText) (used : List Bool) (w : IsWalked asked features used []) where
  all_used : (n : Text) → IsUsed asked features n → IsMarked features used n
  all_used n (by_request f c) = w.begun f c
  all_used n (by_feature g f c u t) =
      let at = place_of features g c in
      ⊎_elim (λ q. absurd (none_in at.0 q)) (λ done. done f t) (w.closed at.0 g at.1 (all_used g.name u at.0 g at.1 refl))

  pub are_used : AreUsed asked features used
  are_used k f at = (λ h. w.sound k f at h, λ u. all_used f.name u k f at refl)

pub same_some : (i k : ℕ) → Some i ≡ Some k → i ≡ k
same_some i k e = cc

pub never_some : {Q : Type 0} (k : ℕ) → None ≡ Some k → Q
never_some k e = cc
