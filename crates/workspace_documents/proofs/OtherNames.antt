-- The packages that a package calls by several names.
use Rattle.std.proofs.Common.{◌≡◌, ◌∙◌, sym, ap, refl, ℕ, ◌+◌, ◌<◌, List, [], ◌∷◌, map, length, take, get_or, Bool, true, false, cond, Bor}
use Rattle.std.specs.Prelude.{◌||◌, ◌&&◌, not, Option, Some, None}
use Rattle.std.specs.BTreeMap.{BTreeMap, get_by}
use Rattle.std.specs.BTreeSet.{BTreeSet}
use Rattle.std.specs.List.{find, list_any}
use Rattle.std.specs.Option.{option_map_or}
use Rattle.std.specs.Ordering.{is_eq}
use Rattle.std.specs.Str.{bytes_eq}
use Rattle.std.proofs.lemmas.Bool.{false≢true, true≢false}
use Rattle.std.proofs.lemmas.List.Folds.{list_any_at, list_any_more}
use Rattle.std.proofs.lemmas.Map.Text.{is_eq-slice_cmp}
use Rattle.std.proofs.lemmas.Slice.Eq.{bytes_eq-Decides}
use Rattle.cargo_json.specs.Faults.{Text}
use Rattle.workspace_documents.specs.declared.dependencies.Dependency.{Dependency}
use Rattle.workspace_documents.specs.Dependencies.{is_other_name, name_of}
use Rattle.workspace_documents.specs.Lists.{id_cmp}
use Rattle.workspace_documents.specs.Views.{dependency_view}
use Rattle.workspace_documents.specs.inner.Aliases.{HasAliased, has_id, is_called, is_miscalled}

or_flip : (a b : Bool) → cond a true b ≡ (b || a)
or_flip true true = refl
or_flip true false = refl
or_flip false true = refl
or_flip false false = refl

and_true : (a : Bool) → (a && true) ≡ a
and_true true = refl
and_true false = refl

-- the id of a dependency whose name the names don't have is inserted
pub inserted : (names : BTreeMap (Bor Text) (Bor Text)) (q : Text) (d : Dependency) (called old new : Bool) → called ≡ is_called names (dependency_view d) → called ≡ false → new ≡ cond (is_eq (id_cmp d.target.now.id.now q)) true old → new ≡ (old || is_miscalled names q d)
inserted names q d called old new is absent grown =
    let id = d.target.now.id.now in
    let none : is_called names (dependency_view d) ≡ false = sym is ∙ absent in
    grown ∙ or_flip (is_eq (id_cmp id q)) old ∙ ap (λ b. old || b) (is_eq-slice_cmp id q ∙ sym (and_true (bytes_eq id q)) ∙ ap (λ b. bytes_eq id q && not b) (sym none))

-- one more dependency
pub miscalled_more : (names : BTreeMap (Bor Text) (Bor Text)) (q : Text) (ds : List Dependency) (i : ℕ) (z : Dependency) (old new : Bool) → i < length ds → old ≡ list_any (is_miscalled names q) (take i ds) → new ≡ (old || is_miscalled names q (get_or ds i z)) → new ≡ list_any (is_miscalled names q) (take (i + 1) ds)
miscalled_more names q ds i z old new within was grown =
    grown ∙ ap (λ b. b || is_miscalled names q (get_or ds i z)) was ∙ sym (list_any_more (is_miscalled names q) ds i z within)

-- what a test of two parts that fails says of the second part
second_part : (a b : Bool) → a && not b ≡ false → a ≡ true → b ≡ true
second_part a true h e = refl
second_part true false h e = sym h
second_part false false h e = e

not_both : (a b : Bool) → (a ≡ true → b ≡ true) → a && not b ≡ false
not_both true b f = rw (f refl) refl
not_both false b f = refl

first_none : (a b : Bool) → (a || b) ≡ false → a ≡ false
first_none true b h = h
first_none false b h = refl

rest_none : (a b : Bool) → (a || b) ≡ false → b ≡ false
rest_none true b h = absurd (true≢false h)
rest_none false b h = h

same_bytes : (a b : Text) → bytes_eq a b ≡ true → a ≡ b
same_bytes a b h = (bytes_eq-Decides a b).0 h

-- two names that equal one text are equal
equal_names : (o : Option (Bor Text)) (x y : Text) → option_map_or (λ n. bytes_eq n.now x) o false ≡ true → option_map_or (λ n. bytes_eq n.now y) o false ≡ true → bytes_eq y x ≡ true
equal_names None x y h k = absurd (false≢true h)
equal_names (Some n) x y h k = ap (λ z. bytes_eq z x) (sym (same_bytes n.now y k)) ∙ h

-- if the names have those of all dependencies that lead to the package of `a`, none of these has another name than `a`
module _ (names : BTreeMap (Bor Text) (Bor Text)) (a : Dependency) (called : is_called names (dependency_view a) ≡ true) where
  abbrev id : Text
  id = a.target.now.id.now

  abbrev name : Dependency → Text
  name d = name_of (dependency_view d).declaration

  same_name : (b : Dependency) → is_miscalled names id b ≡ false → bytes_eq b.target.now.id.now id ≡ true → bytes_eq (name b) (name a) ≡ true
  same_name b h e =
      let is_called_b : is_called names (dependency_view b) ≡ true = second_part (bytes_eq b.target.now.id.now id) (is_called names (dependency_view b)) h e in
      let there : option_map_or (λ n. bytes_eq n.now (name b)) (get_by (λ k. id_cmp id k.now) names) false ≡ true = ap (λ q. option_map_or (λ n. bytes_eq n.now (name b)) (get_by (λ k. id_cmp q k.now) names) false) (sym (same_bytes b.target.now.id.now id e)) ∙ is_called_b in
      equal_names (get_by (λ k. id_cmp id k.now) names) (name a) (name b) called there

  pub none_other : (ds : List Dependency) → list_any (is_miscalled names id) ds ≡ false → find (is_other_name (dependency_view a)) (map dependency_view ds) ≡ None
  none_other [] h = refl
  none_other (b ∷ ds) h =
      let here : is_other_name (dependency_view a) (dependency_view b) ≡ false = not_both (bytes_eq b.target.now.id.now id) (bytes_eq (name b) (name a)) (same_name b (first_none (is_miscalled names id b) (list_any (is_miscalled names id) ds) h)) in
      rw here (none_other ds (rest_none (is_miscalled names id b) (list_any (is_miscalled names id) ds) h))

itself : (t : Text) → bytes_eq t t ≡ true
itself t = (bytes_eq-Decides t t).1 refl

fails_at : (p : Dependency → Bool) (ds : List Dependency) (i : ℕ) (z : Dependency) → i < length ds → list_any p ds ≡ false → (b : Bool) → p (get_or ds i z) ≡ b → b ≡ false
fails_at p ds i z within none false e = refl
fails_at p ds i z within none true e = absurd (false≢true (sym none ∙ list_any_at p ds i z within e))

called_at : (names : BTreeMap (Bor Text) (Bor Text)) (ds : List Dependency) (i : ℕ) (z : Dependency) → i < length ds → list_any (is_miscalled names (get_or ds i z).target.now.id.now) ds ≡ false → is_called names (dependency_view (get_or ds i z)) ≡ true
called_at names ds i z within none =
    let d = get_or ds i z in
    let id = d.target.now.id.now in
    second_part (bytes_eq id id) (is_called names (dependency_view d)) (fails_at (is_miscalled names id) ds i z within none (is_miscalled names id d) refl) (itself id)

pub aliased_all : (names : BTreeMap (Bor Text) (Bor Text)) (ids : BTreeSet (Bor Text)) (ds : List Dependency) → ((q : Text) → has_id ids q ≡ list_any (is_miscalled names q) ds) → HasAliased ids ds
aliased_all names ids ds has i z within absent =
    let d = get_or ds i z in
    let none : list_any (is_miscalled names d.target.now.id.now) ds ≡ false = sym (has d.target.now.id.now) ∙ absent in
    none_other names d (called_at names ds i z within none) ds none
