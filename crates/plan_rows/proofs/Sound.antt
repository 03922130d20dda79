-- Rows without a fault, and the packages of rows.
use Rattle.std.proofs.Common.{◌≡◌, ◌-◌, List, [], ◌∷◌, ◌++◌, Bool, true, false, not, Option, None, Some, is_ok, length, refl, ap, ap₂, sym, subst, ◌∙◌, arith, append_assoc, length-append, take_while, cond, bytes_eq, filter_map}
use Rattle.std.specs.Prelude.{slice_get}
use Rattle.std.specs.List.{list_any}
use Rattle.std.proofs.lemmas.List.{append-nil}
use Rattle.std.proofs.lemmas.List.Sums.{take_while-cons}
use Rattle.guppy_packages.specs.Rows.{RowText, Text, a_package, a_feature, a_dep}
use Rattle.guppy_packages.specs.Graph.{faults_by, firsts, is_package, link_fault, owner, package_before, packages_of, row_fault, row_feature, row_optional_name, tables_of}
use Rattle.guppy_packages.specs.declared.row_error.RowFault.{RowFault}
use Rattle.guppy_packages.proofs.EachAfter.{after, each_after-is}
use Rattle.guppy_packages.proofs.Passes.{error_at}

-- none of `rows`, which come after `before`, has a fault
abbrev pub AreSound : (List RowText → RowText → Option RowFault) → List RowText → List RowText → Type 0
AreSound fault before [] = Unit {0}
AreSound fault before (row ∷ rows) = (fault before row ≡ None) × AreSound fault (before ++ row ∷ []) rows

pub sound-append : (fault : List RowText → RowText → Option RowFault) (before xs ys : List RowText) → AreSound fault before xs → AreSound fault (before ++ xs) ys → AreSound fault before (xs ++ ys)
sound-append fault before [] ys a b = subst (λ l. AreSound fault l ys) (append-nil before) b
sound-append fault before (x ∷ xs) ys a b =
    (a.0, sound-append fault (before ++ x ∷ []) xs ys a.1 (subst (λ l. AreSound fault l ys) (sym (append_assoc before (x ∷ []) xs)) b))

after-none : (fault : List RowText → RowText → Option RowFault) (before rows : List RowText) → AreSound fault before rows → after (error_at fault) before rows ≡ []
after-none fault before [] a = refl
after-none fault before (row ∷ rows) a = rw (a.0, after-none fault (before ++ row ∷ []) rows a.1)

sound-none : (fault : List RowText → RowText → Option RowFault) (rows : List RowText) → AreSound fault [] rows → faults_by fault rows ≡ []
sound-none fault rows a = each_after-is (error_at fault) rows ∙ after-none fault [] rows a

-- rows without a fault have tables
pub tables-sound : (rows : List RowText) → AreSound row_fault [] rows → AreSound (link_fault (packages_of rows)) [] rows → is_ok (tables_of rows) ≡ true
tables-sound rows a b = rw (sound-none row_fault rows a, sound-none (link_fault (packages_of rows)) rows b) refl

own-append : (past more : List RowText) (id : Text) (w : Bool) → take_while (λ row. not (is_package row)) (past ++ a_package id w ∷ more) ≡ take_while (λ row. not (is_package row)) past
own-append [] more id w = take_while-cons (λ row. not (is_package row)) (a_package id w) more
own-append (x ∷ past) more id w =
    let test = λ (row : RowText). not (is_package row) in
    take_while-cons test x (past ++ a_package id w ∷ more) ∙ ap (λ z. cond (test x) (x ∷ z) []) (own-append past more id w) ∙ sym (take_while-cons test x past)

-- the packages of rows, and then those from a Package row on
pub packages_of-append : (past more : List RowText) (id : Text) (w : Bool) → packages_of (past ++ a_package id w ∷ more) ≡ packages_of past ++ packages_of (a_package id w ∷ more)
packages_of-append [] more id w = refl
packages_of-append (a_package i v ∷ past) more id w =
    ap₂ (λ own rest. record { id = i; in_workspace = v; features = filter_map row_feature own; optional_names = firsts bytes_eq (filter_map row_optional_name own) } ∷ rest) (own-append past more id w) (packages_of-append past more id w)
packages_of-append (a_feature name items ∷ past) more id w = packages_of-append past more id w
packages_of-append (a_dep name target d ∷ past) more id w = packages_of-append past more id w

none-packages : (rows : List RowText) → list_any is_package rows ≡ false → packages_of rows ≡ []
none-packages [] h = refl
none-packages (a_package id w ∷ rows) h = cc
none-packages (a_feature name items ∷ rows) h = none-packages rows h
none-packages (a_dep name target d ∷ rows) h = none-packages rows h

-- the last package
pub last_package : (past rows : List RowText) (id : Text) (w : Bool) → list_any is_package rows ≡ false → packages_of (past ++ a_package id w ∷ rows) ≡ packages_of past ++ package_before id w rows ∷ []
last_package past rows id w h = packages_of-append past rows id w ∙ ap (λ z. packages_of past ++ package_before id w rows ∷ z) (none-packages rows h)

got_last : {X : Type 0} (xs : List X) (x : X) → slice_get (xs ++ x ∷ []) (length xs) ≡ Some x
got_last [] x = refl
got_last (y ∷ ys) x = got_last ys x

last_place : {X : Type 0} (xs : List X) (x : X) → length (xs ++ x ∷ []) - 1 ≡ length xs
last_place xs x = omega (arith, length-append xs (x ∷ []))

-- the number of the package that a row after these belongs to, and that package
pub owner-is : (past rows : List RowText) (id : Text) (w : Bool) → list_any is_package rows ≡ false → owner (past ++ a_package id w ∷ rows) ≡ length (packages_of past)
owner-is past rows id w h = ap (λ ps. length ps - 1) (last_package past rows id w h) ∙ last_place (packages_of past) (package_before id w rows)

pub owner-got : (past rows : List RowText) (id : Text) (w : Bool) → list_any is_package rows ≡ false
    → slice_get (packages_of (past ++ a_package id w ∷ rows)) (owner (past ++ a_package id w ∷ rows)) ≡ Some (package_before id w rows)
owner-got past rows id w h =
    ap (λ ps. slice_get ps (length ps - 1)) (last_package past rows id w h)
    ∙ ap (λ n. slice_get (packages_of past ++ package_before id w rows ∷ []) n) (last_place (packages_of past) (package_before id w rows))
    ∙ got_last (packages_of past) (package_before id w rows)
