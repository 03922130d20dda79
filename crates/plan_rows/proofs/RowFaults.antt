-- The rows of entries have no fault by themselves.
use Rattle.std.proofs.Common.{◌≡◌, ℕ, ◌+◌, ◌<◌, ◌≤◌, ◌^◌, List, [], ◌∷◌, ◌++◌, Bool, true, false, not, ◌||◌, None, length, map, refl, ap, sym, subst, ◌∙◌, arith, append_assoc, take_while, bytes_eq}
use Rattle.std.specs.Fmt.{decimal}
use Rattle.std.specs.Cmp.Lexicographic.{bytes_decides}
use Rattle.std.specs.List.{list_any, filter_map, AllByRecursion}
use Rattle.std.proofs.lemmas.Fmt.{decimal_injective}
use Rattle.std.proofs.lemmas.List.{map-append}
use Rattle.std.proofs.lemmas.List.Folds.{list_any-append}
use Rattle.std.proofs.lemmas.List.Sums.{take_while-cons}
use Rattle.guppy_packages.specs.Rows.{RowText, Text, a_package}
use Rattle.guppy_packages.specs.Graph.{is_package, package_before, packages_of, row_fault, row_feature}
use Rattle.guppy_packages.specs.Tables.{has_feature}
use Rattle.guppy_packages.proofs.Firsts.{AreApart}
use Rattle.cargo_workspaces.specs.Workspaces.{FeatureText}
use Rattle.plan_rows.specs.Tables.{Dependency, Entry, dependency_row, entry_rows, feature_row, rows_from}
use Rattle.plan_rows.proofs.Sound.{AreSound, last_package, owner-got, sound-append}

-- whether two features have one name
abbrev pub same_name : FeatureText → FeatureText → Bool
same_name f g = bytes_eq f.name g.name

-- numbers that differ have different ids
pub ids_apart : (n k : ℕ) → k < n → n < 2 ^ 64 → bytes_eq (decimal n) (decimal k) ≡ false
ids_apart n k below small = go (bytes_eq (decimal n) (decimal k)) refl
  where
    go : (b : Bool) → bytes_eq (decimal n) (decimal k) ≡ b → b ≡ false
    go false e = refl
    go true e =
        let same : n ≡ k = decimal_injective n k small (omega arith) ((bytes_decides (decimal n) (decimal k)).0 e) in
        absurd (omega arith)

had : (name : Text) (fs : List FeatureText) → has_feature name (filter_map row_feature (take_while (λ row. not (is_package row)) (map feature_row fs))) ≡ list_any (λ g. bytes_eq name g.name) fs
had name [] = refl
had name (g ∷ gs) =
    ap (λ rows. has_feature name (filter_map row_feature rows)) (take_while-cons (λ row. not (is_package row)) (feature_row g) (map feature_row gs))
    ∙ ap (λ b. bytes_eq name g.name || b) (had name gs)

pub no_packages-features : (fs : List FeatureText) → list_any is_package (map feature_row fs) ≡ false
no_packages-features [] = refl
no_packages-features (f ∷ fs) = no_packages-features fs

pub no_packages-dependencies : (ds : List Dependency) → list_any is_package (map dependency_row ds) ≡ false
no_packages-dependencies [] = refl
no_packages-dependencies (d ∷ ds) = no_packages-dependencies ds

pub no_packages-append : (xs ys : List RowText) → list_any is_package xs ≡ false → list_any is_package ys ≡ false → list_any is_package (xs ++ ys) ≡ false
no_packages-append xs ys a b = rw (list_any-append is_package xs ys, a, b) refl

or_right : (p q r : Bool) → p || (q || r) ≡ false → q ≡ false
or_right true true r h = h
or_right false true r h = h
or_right true false r h = refl
or_right false false r h = refl

-- no name of the features before one is its name
apart_before : (before : List FeatureText) (f : FeatureText) (more : List FeatureText) → AreApart same_name (before ++ f ∷ more) → list_any (λ g. bytes_eq f.name g.name) before ≡ false
apart_before [] f more a = refl
apart_before (x ∷ before) f more a = go (bytes_eq f.name x.name) refl (apart_before before f more a.1)
  where
    found : list_any (λ y. bytes_eq y.name x.name) before || (bytes_eq f.name x.name || list_any (λ y. bytes_eq y.name x.name) more) ≡ false
    found = sym (list_any-append (λ y. bytes_eq y.name x.name) before (f ∷ more)) ∙ a.0

    go : (b : Bool) → bytes_eq f.name x.name ≡ b → list_any (λ g. bytes_eq f.name g.name) before ≡ false → b || list_any (λ g. bytes_eq f.name g.name) before ≡ false
    go true e rest = sym e ∙ or_right (list_any (λ y. bytes_eq y.name x.name) before) (bytes_eq f.name x.name) (list_any (λ y. bytes_eq y.name x.name) more) found
    go false e rest = rest

module _ (past : List RowText) (id : Text) (w : Bool) where
  features_sound : (before fs : List FeatureText) → AreApart same_name (before ++ fs) → AreSound row_fault (past ++ a_package id w ∷ map feature_row before) (map feature_row fs)
  features_sound before [] a = tt
  features_sound before (f ∷ fs) a =
      let rows = map feature_row before in
      let none : list_any (λ g. bytes_eq f.name g.name) before ≡ false = apart_before before f fs a in
      let passes : row_fault (past ++ a_package id w ∷ rows) (feature_row f) ≡ None = rw (owner-got past rows id w (no_packages-features before), had f.name before, none) refl in
      let next : past ++ a_package id w ∷ map feature_row (before ++ f ∷ []) ≡ (past ++ a_package id w ∷ rows) ++ feature_row f ∷ [] =
      ap (λ z. past ++ a_package id w ∷ z) (map-append feature_row before (f ∷ [])) ∙ sym (append_assoc past (a_package id w ∷ rows) (feature_row f ∷ [])) in
      (passes, subst (λ z. AreSound row_fault z (map feature_row fs)) next (features_sound (before ++ f ∷ []) fs (subst (AreApart same_name) (sym (append_assoc before (f ∷ []) fs)) a)))

  dependencies_sound : (rows : List RowText) (ds : List Dependency) → list_any is_package rows ≡ false → AreSound row_fault (past ++ a_package id w ∷ rows) (map dependency_row ds)
  dependencies_sound rows [] h = tt
  dependencies_sound rows (d ∷ ds) h =
      let passes : row_fault (past ++ a_package id w ∷ rows) (dependency_row d) ≡ None = rw (owner-got past rows id w h) refl in
      let next : past ++ a_package id w ∷ (rows ++ dependency_row d ∷ []) ≡ (past ++ a_package id w ∷ rows) ++ dependency_row d ∷ [] = sym (append_assoc past (a_package id w ∷ rows) (dependency_row d ∷ [])) in
      (passes, subst (λ z. AreSound row_fault z (map dependency_row ds)) next (dependencies_sound (rows ++ dependency_row d ∷ []) ds (no_packages-append rows (dependency_row d ∷ []) h refl)))

-- no package of the rows has the id of a number from `k` on
abbrev AreBefore : ℕ → List RowText → Type 0
AreBefore k rows = (n : ℕ) → k ≤ n → n < 2 ^ 64 → list_any (λ p. bytes_eq (decimal n) p.id) (packages_of rows) ≡ false

pub entry_packages : (past : List RowText) (k : ℕ) (e : Entry) → packages_of (past ++ entry_rows k e) ≡ packages_of past ++ package_before (decimal k) false (map feature_row e.features ++ map dependency_row e.dependencies) ∷ []
entry_packages past k e =
    last_package past (map feature_row e.features ++ map dependency_row e.dependencies) (decimal k) false (no_packages-append (map feature_row e.features) (map dependency_row e.dependencies) (no_packages-features e.features) (no_packages-dependencies e.dependencies))

before_next : (k : ℕ) (past : List RowText) (e : Entry) → AreBefore k past → AreBefore (k + 1) (past ++ entry_rows k e)
before_next k past e h n from small =
    let rest : List RowText = map feature_row e.features ++ map dependency_row e.dependencies in
    rw (entry_packages past k e, list_any-append (λ p. bytes_eq (decimal n) p.id) (packages_of past) (package_before (decimal k) false rest ∷ []), h n (omega arith) small, ids_apart n k (omega arith) small) refl

entry_sound : (past : List RowText) (k : ℕ) (e : Entry) → k < 2 ^ 64 → AreBefore k past → AreApart same_name e.features → AreSound row_fault past (entry_rows k e)
entry_sound past k e small h a =
    let id = decimal k in
    let fs = map feature_row e.features in
    let ds = map dependency_row e.dependencies in
    let first : row_fault past (a_package id false) ≡ None = rw (h k (omega arith) small) refl in
    let features = features_sound past id false [] e.features a in
    let dependencies = subst (λ z. AreSound row_fault z ds) (sym (append_assoc past (a_package id false ∷ []) fs)) (dependencies_sound past id false fs e.dependencies (no_packages-features e.features)) in
    (first, sound-append row_fault (past ++ a_package id false ∷ []) fs ds features dependencies)

sound_from : (past : List RowText) (k : ℕ) (es : List Entry) → k + length es < 2 ^ 64 → AreBefore k past → AllByRecursion (λ e. AreApart same_name e.features) es → AreSound row_fault past (rows_from k es)
sound_from past k [] small h a = tt
sound_from past k (e ∷ es) small h a =
    sound-append row_fault past (entry_rows k e) (rows_from (k + 1) es) (entry_sound past k e (omega arith) h a.0) (sound_from (past ++ entry_rows k e) (k + 1) es (omega arith) (before_next k past e h) a.1)

-- the rows of entries, each of whose features has another name
pub rows_sound : (es : List Entry) → length es < 2 ^ 64 → AllByRecursion (λ e. AreApart same_name e.features) es → AreSound row_fault [] (rows_from 0 es)
rows_sound es small a = sound_from [] 0 es (omega arith) (λ n from below. refl) a
