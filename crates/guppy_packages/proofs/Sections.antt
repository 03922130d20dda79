-- The packages of rows, and the effect of one more row.
use Rattle.std.proofs.Common.{◌≡◌, ℕ, zero, suc, ◌+◌, ◌-◌, List, [], ◌∷◌, ◌++◌, Bool, true, false, cond, ◌||◌, not, Option, None, Some, Ok, Err, length, refl, ap, ap₂, sym, ◌∙◌, arith, if◌then◌else◌}
use Rattle.std.specs.Prelude.{slice_get, slice_set, take_while}
use Rattle.std.specs.List.{cons_option, filter_map, list_any}
use Rattle.std.specs.Option.{option_map_or}
use Rattle.std.specs.Str.{bytes_eq}
use Rattle.std.specs.Cmp.Lexicographic.{bytes_decides}
use Rattle.std.proofs.lemmas.List.{append-nil, length-append}
use Rattle.std.proofs.lemmas.List.Elements.{filter_map-append}
use Rattle.std.proofs.lemmas.List.Sums.{take_while-cons}
use Rattle.guppy_packages.specs.Rows.{Text, RowText, a_package, a_feature, a_dep}
use Rattle.guppy_packages.specs.Tables.{PackageTable, has_feature}
use Rattle.guppy_packages.specs.Graph.{firsts, is_package, owner, package_before, packages_of, row_fault, row_feature, row_optional_name}
use Rattle.guppy_packages.specs.inner.Steps.{Outcome, add_feature, add_name, begun_after, first_step, result_map, with_name}
use Rattle.guppy_packages.specs.declared.row_error.RowFault.{RowFault}
use Rattle.guppy_packages.specs.declared.row_error.RowFault.TheVariants.{NoPackage, DuplicatePackage, DuplicateFeature}
use Rattle.guppy_packages.proofs.Firsts.{firsts-push}

abbrev pub own_rows : List RowText → List RowText
own_rows rows = take_while (λ row. not (is_package row)) rows

-- a package with these rows of its own
abbrev pub with_rows : Text → Bool → List RowText → PackageTable
with_rows id in_workspace own = record { id = id; in_workspace = in_workspace; features = filter_map row_feature own; optional_names = firsts bytes_eq (filter_map row_optional_name own) }

-- the effect of one more row on the package that it belongs to
abbrev pub grown : RowText → PackageTable → PackageTable
grown (a_package id in_workspace) p = p
grown (a_feature name items) p = record p { features = p.features ++ record { name = name; items = items } ∷ [] }
grown (a_dep name target d) p = add_name name d.optional p

pub bytes_along : (a b c : Text) → bytes_eq a b ≡ true → bytes_eq b c ≡ true → bytes_eq a c ≡ true
bytes_along a b c e f = (bytes_decides a c).1 ((bytes_decides a b).0 e ∙ (bytes_decides b c).0 f)

names-grown : (names : List Text) (name : Text) (optional : Bool) → firsts bytes_eq (names ++ cons_option (if optional then Some name else None) []) ≡ (if optional then with_name name (firsts bytes_eq names) else firsts bytes_eq names)
names-grown names name true = firsts-push bytes_eq bytes_along names name
names-grown names name false = ap (firsts bytes_eq) (append-nil names)

add_name-is : (p : PackageTable) (name : Text) (optional : Bool) → add_name name optional p ≡ record p { optional_names = (if optional then with_name name p.optional_names else p.optional_names) }
add_name-is p name true = refl
add_name-is p name false = refl

pub with_rows-push : (id : Text) (in_workspace : Bool) (own : List RowText) (row : RowText) → is_package row ≡ false → with_rows id in_workspace (own ++ row ∷ []) ≡ grown row (with_rows id in_workspace own)
with_rows-push id w own (a_package i v) h = cc
with_rows-push id w own (a_feature name items) h =
    rw (filter_map-append row_feature own (a_feature name items ∷ []), filter_map-append row_optional_name own (a_feature name items ∷ []), append-nil (filter_map row_optional_name own))
with_rows-push id w own (a_dep name target d) h =
    rw (filter_map-append row_feature own (a_dep name target d ∷ []), filter_map-append row_optional_name own (a_dep name target d ∷ []), append-nil (filter_map row_feature own), names-grown (filter_map row_optional_name own) name d.optional, add_name-is (with_rows id w own) name d.optional)

-- the rows of the first package end at the next Package row
own_rows-push : (rows : List RowText) (row : RowText) → own_rows (rows ++ row ∷ []) ≡ (if list_any is_package rows || is_package row then own_rows rows else rows ++ row ∷ [])
own_rows-push [] row = rw (take_while-cons (λ r. not (is_package r)) row []) (go (is_package row))
  where
    go : (b : Bool) → cond (not b) (row ∷ []) [] ≡ (if false || b then [] else row ∷ [])
    go true = refl
    go false = refl
own_rows-push (x ∷ rows) row = rw (take_while-cons (λ r. not (is_package r)) x (rows ++ row ∷ []), take_while-cons (λ r. not (is_package r)) x rows, own_rows-push rows row) (go (is_package x) (list_any is_package rows) (is_package row))
  where
    go : (b c e : Bool) → cond (not b) (x ∷ (if c || e then own_rows rows else rows ++ row ∷ [])) [] ≡ (if b || c || e then cond (not b) (x ∷ own_rows rows) [] else x ∷ (rows ++ row ∷ []))
    go true c e = refl
    go false true e = refl
    go false false true = refl
    go false false false = refl

-- if no Package row follows, all rows belong to the package
own_rows-all : (rows : List RowText) → list_any is_package rows ≡ false → own_rows rows ≡ rows
own_rows-all [] h = refl
own_rows-all (x ∷ rows) h = rw (take_while-cons (λ r. not (is_package r)) x rows) (go (is_package x) h (own_rows-all rows))
  where
    go : (b : Bool) → b || list_any is_package rows ≡ false → (list_any is_package rows ≡ false → own_rows rows ≡ rows) → cond (not b) (x ∷ own_rows rows) [] ≡ x ∷ rows
    go true h more = cc
    go false h more = ap (λ l. x ∷ l) (more h)

packages_none : (rows : List RowText) → list_any is_package rows ≡ false → packages_of rows ≡ []
packages_none [] h = refl
packages_none (a_package i w ∷ rows) h = cc
packages_none (a_feature name items ∷ rows) h = packages_none rows h
packages_none (a_dep name target d ∷ rows) h = packages_none rows h

packages_some : (rows : List RowText) → list_any is_package rows ≡ true → (p : PackageTable) × (ps : List PackageTable) × (packages_of rows ≡ p ∷ ps)
packages_some [] h = cc
packages_some (a_package i w ∷ rows) h = (package_before i w rows, packages_of rows, refl)
packages_some (a_feature name items ∷ rows) h = packages_some rows h
packages_some (a_dep name target d ∷ rows) h = packages_some rows h

abbrev pub map_last : {X : Type 0} → (X → X) → List X → List X
map_last f [] = []
map_last f (x ∷ []) = f x ∷ []
map_last f (x ∷ y ∷ ys) = x ∷ map_last f (y ∷ ys)

own_rows-package : (rows : List RowText) (id : Text) (w : Bool) → own_rows (rows ++ a_package id w ∷ []) ≡ own_rows rows
own_rows-package rows id w = own_rows-push rows (a_package id w) ∙ go (list_any is_package rows) refl
  where
    go : (b : Bool) → list_any is_package rows ≡ b → (if b || true then own_rows rows else rows ++ a_package id w ∷ []) ≡ own_rows rows
    go true e = refl
    go false e = refl

-- one more Package row
pub packages_of-package : (before : List RowText) (id : Text) (w : Bool) → packages_of (before ++ a_package id w ∷ []) ≡ packages_of before ++ with_rows id w [] ∷ []
packages_of-package [] id w = refl
packages_of-package (a_package i v ∷ rows) id w = ap₂ (λ own ps. with_rows i v own ∷ ps) (own_rows-package rows id w) (packages_of-package rows id w)
packages_of-package (a_feature name items ∷ rows) id w = packages_of-package rows id w
packages_of-package (a_dep name target d ∷ rows) id w = packages_of-package rows id w

-- one more row of the last package
pub packages_of-own : (before : List RowText) (row : RowText) → is_package row ≡ false → packages_of (before ++ row ∷ []) ≡ map_last (grown row) (packages_of before)
packages_of-own [] (a_package i w) h = cc
packages_of-own [] (a_feature name items) h = refl
packages_of-own [] (a_dep name target d) h = refl
packages_of-own (a_feature name items ∷ rows) row h = packages_of-own rows row h
packages_of-own (a_dep name target d ∷ rows) row h = packages_of-own rows row h
packages_of-own (a_package i v ∷ rows) row h = go (list_any is_package rows) refl (packages_of-own rows row h)
  where
    go : (b : Bool) → list_any is_package rows ≡ b → packages_of (rows ++ row ∷ []) ≡ map_last (grown row) (packages_of rows)
        → with_rows i v (own_rows (rows ++ row ∷ [])) ∷ packages_of (rows ++ row ∷ []) ≡ map_last (grown row) (with_rows i v (own_rows rows) ∷ packages_of rows)
    go true e more =
        let some = packages_some rows e in
        let own : own_rows (rows ++ row ∷ []) ≡ own_rows rows = own_rows-push rows row ∙ rw e in
        rw (own, more, some.2)
    go false e more =
        let none = packages_none rows e in
        let own : own_rows (rows ++ row ∷ []) ≡ own_rows rows ++ row ∷ [] = own_rows-push rows row ∙ rw (e, h, own_rows-all rows e) in
        rw (own, more, none, with_rows-push i v (own_rows rows) row h)

-- a write to the last place
slice_set-last : {X : Type 0} (f : X → X) (xs : List X) (i : ℕ) (x : X) → i + 1 ≡ length xs → slice_get xs i ≡ Some x → slice_set xs i (f x) ≡ map_last f xs
slice_set-last f [] i x n g = cc
slice_set-last f (y ∷ []) zero x n g =
    let here : y ≡ x = cc in
    ap (λ z. f z ∷ []) (sym here)
slice_set-last f (y ∷ []) (suc i) x n g = cc
slice_set-last f (y ∷ z ∷ zs) zero x n g = absurd (omega arith)
slice_set-last f (y ∷ z ∷ zs) (suc i) x n g =
    let m : i + 1 ≡ length (z ∷ zs) = omega arith in
    ap (λ l. y ∷ l) (slice_set-last f (z ∷ zs) i x m g)

-- the outcome of a row that has this fault, or none
abbrev pub outcome : {X : Type 0} → Option RowFault → X → Outcome X
outcome None x = Ok x
outcome (Some fault) x = Err fault

last_place : {X : Type 0} (xs : List X) (x : X) → slice_get xs (length xs - 1) ≡ Some x → length xs - 1 + 1 ≡ length xs
last_place [] x h = cc
last_place (y ∷ ys) x h = omega arith

-- the first pass reads a row as defined
pub first_step-is : (before : List RowText) (row : RowText) → first_step (packages_of before) row ≡ outcome (row_fault before row) (packages_of (before ++ row ∷ []))
first_step-is before (a_package id w) = rw (packages_of-package before id w) (go (list_any (λ p. bytes_eq id p.id) (packages_of before)))
  where
    go : (b : Bool) → (if b then Err DuplicatePackage else Ok (packages_of before ++ with_rows id w [] ∷ [])) ≡ outcome (if b then Some DuplicatePackage else None) (packages_of before ++ with_rows id w [] ∷ [])
    go true = refl
    go false = refl
first_step-is before (a_feature name items) = rw (packages_of-own before (a_feature name items) refl) (go (slice_get (packages_of before) (owner before)) refl)
  where
    ps : List PackageTable
    ps = packages_of before

    with_it : (p : PackageTable) → slice_get (packages_of before) (owner before) ≡ Some p → (b : Bool) → has_feature name p.features ≡ b
        → result_map (slice_set (packages_of before) (owner before)) (add_feature name items p) ≡ outcome (if b then Some DuplicateFeature else None) (map_last (grown (a_feature name items)) (packages_of before))
    with_it p e true h = rw h
    with_it p e false h = rw h (ap Ok (slice_set-last (grown (a_feature name items)) (packages_of before) (owner before) p (last_place (packages_of before) p e) e))

    go : (o : Option PackageTable) → slice_get (packages_of before) (owner before) ≡ o
        → option_map_or (λ p. result_map (slice_set (packages_of before) (owner before)) (add_feature name items p)) o (Err NoPackage)
        ≡ outcome (option_map_or (λ p. if has_feature name p.features then Some DuplicateFeature else None) o (Some NoPackage)) (map_last (grown (a_feature name items)) (packages_of before))
    go None e = refl
    go (Some p) e = with_it p e (has_feature name p.features) refl
first_step-is before (a_dep name target d) = rw (packages_of-own before (a_dep name target d) refl) (go (slice_get (packages_of before) (owner before)) refl)
  where
    go : (o : Option PackageTable) → slice_get (packages_of before) (owner before) ≡ o
        → option_map_or (λ p. result_map (slice_set (packages_of before) (owner before)) (Ok (add_name name d.optional p))) o (Err NoPackage)
        ≡ outcome (option_map_or (λ p. None) o (Some NoPackage)) (map_last (grown (a_dep name target d)) (packages_of before))
    go None e = refl
    go (Some p) e = ap Ok (slice_set-last (grown (a_dep name target d)) (packages_of before) (owner before) p (last_place (packages_of before) p e) e)

length-map_last : {X : Type 0} (f : X → X) (xs : List X) → length (map_last f xs) ≡ length xs
length-map_last f [] = refl
length-map_last f (x ∷ []) = refl
length-map_last f (x ∷ y ∷ ys) = ap suc (length-map_last f (y ∷ ys))

-- the number of Package rows read is the number of packages
pub begun_after-is : (before : List RowText) (row : RowText) → begun_after (length (packages_of before)) row ≡ length (packages_of (before ++ row ∷ []))
begun_after-is before (a_package id w) = rw (packages_of-package before id w) (sym (length-append (packages_of before) (with_rows id w [] ∷ [])))
begun_after-is before (a_feature name items) = rw (packages_of-own before (a_feature name items) refl) (sym (length-map_last (grown (a_feature name items)) (packages_of before)))
begun_after-is before (a_dep name target d) = rw (packages_of-own before (a_dep name target d) refl) (sym (length-map_last (grown (a_dep name target d)) (packages_of before)))
