-- Texts without repeats.
use Rattle.std.proofs.Common.{◌≡◌, ℕ, ◌+◌, ◌<◌, List, [], ◌∷◌, ◌++◌, Bool, true, false, cond, ◌||◌, not, ◌&&◌, length, map, take, get_or, refl, ap, sym, ◌∙◌}
use Rattle.std.specs.List.{filter, list_any}
use Rattle.std.specs.Str.{bytes_eq}
use Rattle.std.specs.Cmp.Lexicographic.{bytes_decides}
use Rattle.std.proofs.lemmas.List.{append-nil, map-append, take_more}
use Rattle.std.proofs.lemmas.List.Elements.{filter-append}
use Rattle.cargo_workspaces.specs.Views.{declaration_text}
use Rattle.cargo_workspaces.specs.Workspaces.{DeclarationText, Text}
use Rattle.cargo_workspaces.specs.declared.package.Declaration.{Declaration}
use Rattle.plan_names.specs.Names.{each_once}
use Rattle.plan_names.specs.inner.News.{with_new}

same_text : (y x : Text) → bytes_eq y x ≡ true → y ≡ x
same_text y x e = (bytes_decides y x).0 e

-- texts other than x have y as before, if y isn't x
any_other : (y x : Text) (xs : List Text) → bytes_eq y x ≡ false → list_any (bytes_eq y) (filter (λ z. not (bytes_eq z x)) xs) ≡ list_any (bytes_eq y) xs
any_other y x [] h = refl
any_other y x (z ∷ xs) h = go (bytes_eq z x) refl (any_other y x xs h)
  where
    go : (b : Bool) → bytes_eq z x ≡ b → list_any (bytes_eq y) (filter (λ z. not (bytes_eq z x)) xs) ≡ list_any (bytes_eq y) xs
        → list_any (bytes_eq y) (cond (not b) (z ∷ filter (λ z. not (bytes_eq z x)) xs) (filter (λ z. not (bytes_eq z x)) xs)) ≡ (bytes_eq y z || list_any (bytes_eq y) xs)
    go true e more = more ∙ sym (ap (λ t. t || list_any (bytes_eq y) xs) (ap (bytes_eq y) (same_text z x e) ∙ h))
    go false e more = ap (λ t. bytes_eq y z || t) more

-- texts other than y, after one more at their end
other_more : (x y : Text) (xs : List Text) → filter (λ z. not (bytes_eq z x)) (xs ++ y ∷ []) ≡ filter (λ z. not (bytes_eq z x)) xs ++ cond (not (bytes_eq y x)) (y ∷ []) []
other_more x y xs = filter-append (λ z. not (bytes_eq z x)) xs (y ∷ [])

other_new : (x y : Text) (xs : List Text) → x ∷ filter (λ z. not (bytes_eq z x)) (with_new xs y) ≡ with_new (x ∷ filter (λ z. not (bytes_eq z x)) xs) y
other_new x y xs = go (bytes_eq y x) refl (list_any (bytes_eq y) xs) refl
  where
    go : (s : Bool) → bytes_eq y x ≡ s → (a : Bool) → list_any (bytes_eq y) xs ≡ a → x ∷ filter (λ z. not (bytes_eq z x)) (with_new xs y) ≡ with_new (x ∷ filter (λ z. not (bytes_eq z x)) xs) y
    go true e true h = rw (h, e) refl
    go true e false h = rw (h, other_more x y xs, e) (ap (λ ys. x ∷ ys) (append-nil (filter (λ z. not (bytes_eq z x)) xs)))
    go false e true h = rw (h, e, any_other y x xs e, h) refl
    go false e false h = rw (h, e, any_other y x xs e, h) (ap (λ ys. x ∷ ys) (other_more x y xs ∙ ap (λ b. filter (λ z. not (bytes_eq z x)) xs ++ cond (not b) (y ∷ []) []) e))

-- one more text
pub each_once_more : (xs : List Text) (y : Text) → each_once (xs ++ y ∷ []) ≡ with_new (each_once xs) y
each_once_more [] y = refl
each_once_more (x ∷ xs) y = ap (λ ys. x ∷ filter (λ z. not (bytes_eq z x)) ys) (each_once_more xs y) ∙ other_new x y (each_once xs)

wanted : (Text → Bool) → List DeclarationText → List Text
wanted test ds = filter test (map (λ d. d.name) (filter (λ d. d.optional) ds))

wanted_more : (test : Text → Bool) (ds es : List DeclarationText) → wanted test (ds ++ es) ≡ wanted test ds ++ wanted test es
unfolding wanted
wanted_more test ds es =
    ap (λ (xs : List DeclarationText). filter test (map (λ d. d.name) xs)) (filter-append (λ d. d.optional) ds es)
    ∙ ap (filter test) (map-append (λ d. d.name) (filter (λ d. d.optional) ds) (filter (λ d. d.optional) es))
    ∙ filter-append test (map (λ d. d.name) (filter (λ d. d.optional) ds)) (map (λ d. d.name) (filter (λ d. d.optional) es))

pub taken_more : (ds : List Declaration) (i : ℕ) (d : Declaration) → i < length ds → d ≡ get_or ds i d → map declaration_text (take (i + 1) ds) ≡ map declaration_text (take i ds) ++ declaration_text d ∷ []
taken_more ds i d within is = ap (λ (xs : List Declaration). map declaration_text xs) (take_more ds i d within ∙ ap (λ x. take i ds ++ x ∷ []) (sym is)) ∙ map-append declaration_text (take i ds) (d ∷ [])

-- one more declaration
once_by : (test : Text → Bool) (d : DeclarationText) (o t : Bool) (xs : List Text) → d.optional ≡ o → test d.name ≡ t → each_once (xs ++ wanted test (d ∷ [])) ≡ cond (o && t) (with_new (each_once xs) d.name) (each_once xs)
unfolding wanted
once_by test d true true xs e h = rw (e, h) (each_once_more xs d.name)
once_by test d true false xs e h = rw (e, h) (ap each_once (append-nil xs))
once_by test d false t xs e h = rw e (ap each_once (append-nil xs))

-- the names after one more declaration
pub names_more : (test : Text → Bool) (ds : List Declaration) (i : ℕ) (d : Declaration) (o t : Bool) (names new : List Text) → i < length ds → d ≡ get_or ds i d → d.optional ≡ o → test d.name.now ≡ t
    → names ≡ each_once (filter test (map (λ d. d.name) (filter (λ d. d.optional) (map declaration_text (take i ds))))) → new ≡ cond (o && t) (with_new names d.name.now) names
    → new ≡ each_once (filter test (map (λ d. d.name) (filter (λ d. d.optional) (map declaration_text (take (i + 1) ds)))))
unfolding wanted
names_more test ds i d o t names new within is e h sofar pushed =
    pushed ∙ ap (λ xs. cond (o && t) (with_new xs d.name.now) xs) sofar
    ∙ sym (once_by test (declaration_text d) o t (wanted test (map declaration_text (take i ds))) e h)
    ∙ ap each_once (sym (wanted_more test (map declaration_text (take i ds)) (declaration_text d ∷ [])))
    ∙ ap (λ xs. each_once (wanted test xs)) (sym (taken_more ds i d within is))
