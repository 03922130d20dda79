-- The two passes over the rows.
use Rattle.std.proofs.Common.{◌≡◌, ℕ, ◌+◌, ◌<◌, List, [], ◌∷◌, ◌++◌, Option, None, Some, Ok, Err, length, take, drop, refl, ap, ap₂, sym, ◌∙◌, subst, arith}
use Rattle.std.specs.Option.{option_map}
use Rattle.std.proofs.lemmas.List.{length-take-le, take-append-drop}
use Rattle.std.proofs.Math.Seq.{take-append-add}
use Rattle.guppy_packages.specs.Rows.{RowText}
use Rattle.guppy_packages.specs.Tables.{LinkTable, PackageTable, Tables}
use Rattle.guppy_packages.specs.Graph.{dependencies_of, error_row, faults_by, first_or, link_fault, links_of, MatchMemory, packages_of, row_fault, tables_of}
use Rattle.guppy_packages.specs.inner.Steps.{begun_after, first_step, second_step, Takes}
use Rattle.guppy_packages.specs.declared.row_error.RowFault.{RowFault}
use Rattle.guppy_packages.specs.declared.row_error.RowFault.TheVariants.{NoPackage, DuplicatePackage, DuplicateFeature, UnknownTarget, OtherName, Memory}
use Rattle.guppy_packages.specs.declared.row_error.RowError.{RowError}
use Rattle.guppy_packages.proofs.EachAfter.{after, each_after-append}
use Rattle.guppy_packages.proofs.Joined.{second_step-is}
use Rattle.guppy_packages.proofs.Sections.{begun_after-is, first_step-is, outcome}

outcome-ok : {X : Type 0} (o : Option RowFault) (x y : X) → outcome o x ≡ Ok y → (o ≡ None) × (x ≡ y)
outcome-ok None x y h =
    let e : x ≡ y = cc in
    (refl, e)
outcome-ok (Some fault) x y h = cc

outcome-err : {X : Type 0} (o : Option RowFault) (x : X) (fault : RowFault) → outcome o x ≡ Err fault → o ≡ Some fault
outcome-err None x fault h = cc
outcome-err (Some other) x fault h =
    let e : other ≡ fault = cc in
    ap Some e

abbrev pub error_at : (List RowText → RowText → Option RowFault) → List RowText → RowText → Option RowError
error_at fault before row = option_map (λ f. record { row = length before; fault = f }) (fault before row)

-- a row of all rows, at index i
module _ (all : List RowText) (i : ℕ) (row : RowText) (h : i < length all) (at : drop i all ≡ row ∷ drop (i + 1) all) where
  before : List RowText
  before = take i all

  parted : all ≡ take i all ++ row ∷ drop (i + 1) all
  parted = sym (take-append-drop i all) ∙ ap (λ l. take i all ++ l) at

  count : length (take i all) ≡ i
  count = length-take-le i all (omega arith)

  pub take-next : take (i + 1) all ≡ take i all ++ row ∷ []
  take-next =
      let cut : take (length (take i all) + 1) (take i all ++ row ∷ drop (i + 1) all) ≡ take i all ++ row ∷ [] = take-append-add (take i all) (row ∷ drop (i + 1) all) 1 in
      let same : take (length (take i all) + 1) (take i all ++ row ∷ drop (i + 1) all) ≡ take (i + 1) all = ap₂ (λ n l. take (n + 1) l) count (sym parted) in
      sym same ∙ cut

  module _ (fault : List RowText → RowText → Option RowFault) (none : faults_by fault (take i all) ≡ []) where
    -- a row with no fault
    pub passed : fault (take i all) row ≡ None → faults_by fault (take (i + 1) all) ≡ []
    passed ok =
        rw (take-next, each_after-append (error_at fault) (take i all) (row ∷ []), none, ok)

    -- the first row with a fault
    pub refused : {X : Type 0} (f : RowFault) (x : X) → fault (take i all) row ≡ Some f → first_or (faults_by fault all) x ≡ Err (record { row = i; fault = f })
    refused f x bad =
        let first : faults_by fault all ≡ record { row = i; fault = f } ∷ after (error_at fault) (take i all ++ row ∷ []) (drop (i + 1) all) =
        ap (faults_by fault) parted ∙ each_after-append (error_at fault) (take i all) (row ∷ drop (i + 1) all) ∙ rw (none, bad, count) in
        ap (λ l. first_or l x) first

    -- the loop's result for a row with a fault
    pub answers : (A : Type 0) {X Y : Type 0} (f : RowFault) (e : RowError) (new table : X) (x : Y) → e.fault ≡ f → e.row ≡ error_row f i
        → Takes {A = A} new (Err f) (outcome (fault (take i all) row) table) → MatchMemory e.fault (e.row ≡ 0) (first_or (faults_by fault all) x ≡ Err e)
    answers A f e new table x is_fault is_row taken = subst (λ g. MatchMemory g (e.row ≡ 0) (first_or (faults_by fault all) x ≡ Err e)) (sym is_fault) (go f is_fault is_row taken)
      where
        same : (g : RowFault) → e.fault ≡ g → e.row ≡ i → record { row = i; fault = g } ≡ e
        same g p q = ap₂ (λ r s. record { row = r; fault = s }) (sym q) (sym p)

        at_fault : (g : RowFault) → e.fault ≡ g → e.row ≡ i → outcome (fault (take i all) row) table ≡ Err g → first_or (faults_by fault all) x ≡ Err e
        at_fault g p q t = refused g x (outcome-err _ table g t) ∙ ap Err (same g p q)

        go : (g : RowFault) → e.fault ≡ g → e.row ≡ error_row g i → Takes {A = A} new (Err g) (outcome (fault (take i all) row) table) → MatchMemory g (e.row ≡ 0) (first_or (faults_by fault all) x ≡ Err e)
        go Memory p q t = q
        go NoPackage p q t = at_fault NoPackage p q t
        go DuplicatePackage p q t = at_fault DuplicatePackage p q t
        go DuplicateFeature p q t = at_fault DuplicateFeature p q t
        go UnknownTarget p q t = at_fault UnknownTarget p q t
        go OtherName p q t = at_fault OtherName p q t

    -- the loop's state after a row without a fault
    pub goes_on : {X : Type 0} (new table : X) → outcome (fault (take i all) row) table ≡ Ok new → (faults_by fault (take (i + 1) all) ≡ []) × (table ≡ new)
    goes_on new table taken =
        let parts = outcome-ok (fault (take i all) row) table new taken in
        (passed parts.0, parts.1)

  -- the loop of the first pass, with these packages so far
  module _ (none : faults_by row_fault (take i all) ≡ []) (old : List PackageTable) (tables : old ≡ packages_of (take i all)) where
    as_defined : first_step old row ≡ outcome (row_fault (take i all) row) (packages_of (take i all ++ row ∷ []))
    as_defined = ap (λ ps. first_step ps row) tables ∙ first_step-is (take i all) row

    pub first_answers : (A : Type 0) {Y : Type 0} (f : RowFault) (e : RowError) (new : List PackageTable) (x : Y) → e.fault ≡ f → e.row ≡ error_row f i
        → Takes {A = A} new (Err f) (first_step old row) → MatchMemory e.fault (e.row ≡ 0) (first_or (faults_by row_fault all) x ≡ Err e)
    first_answers A f e new x is_fault is_row taken =
        answers row_fault none A f e new (packages_of (take i all ++ row ∷ [])) x is_fault is_row (subst (λ g. Takes {A = A} new (Err f) g) as_defined taken)

    pub first_goes_on : (new : List PackageTable) → first_step old row ≡ Ok new → (faults_by row_fault (take (i + 1) all) ≡ []) × (new ≡ packages_of (take (i + 1) all))
    first_goes_on new taken =
        let parts = goes_on row_fault none new (packages_of (take i all ++ row ∷ [])) (sym as_defined ∙ taken) in
        (parts.0, sym parts.1 ∙ ap packages_of (sym take-next))

  -- the loop of the second pass, with these links so far
  module _ (packages : List PackageTable) (none : faults_by (link_fault packages) (take i all) ≡ []) (begun : ℕ) (counted : begun ≡ length (packages_of (take i all))) (old : List LinkTable) (tables : old ≡ links_of (dependencies_of packages (take i all))) where
    so_defined : second_step packages begun old row ≡ outcome (link_fault packages (take i all) row) (links_of (dependencies_of packages (take i all ++ row ∷ [])))
    so_defined = ap₂ (λ n ls. second_step packages n ls row) counted tables ∙ second_step-is packages (take i all) row

    pub second_answers : (A : Type 0) {Y : Type 0} (f : RowFault) (e : RowError) (new : List LinkTable) (x : Y) → e.fault ≡ f → e.row ≡ error_row f i
        → Takes {A = A} new (Err f) (second_step packages begun old row) → MatchMemory e.fault (e.row ≡ 0) (first_or (faults_by (link_fault packages) all) x ≡ Err e)
    second_answers A f e new x is_fault is_row taken =
        answers (link_fault packages) none A f e new (links_of (dependencies_of packages (take i all ++ row ∷ []))) x is_fault is_row (subst (λ g. Takes {A = A} new (Err f) g) so_defined taken)

    pub second_goes_on : (new : List LinkTable) → second_step packages begun old row ≡ Ok new
        → (faults_by (link_fault packages) (take (i + 1) all) ≡ []) × (begun_after begun row ≡ length (packages_of (take (i + 1) all))) × (new ≡ links_of (dependencies_of packages (take (i + 1) all)))
    second_goes_on new taken =
        let parts = goes_on (link_fault packages) none new (links_of (dependencies_of packages (take i all ++ row ∷ []))) (sym so_defined ∙ taken) in
        (parts.0, ap (λ n. begun_after n row) counted ∙ begun_after-is (take i all) row ∙ ap (λ rs. length (packages_of rs)) (sym take-next), sym parts.1 ∙ ap (λ rs. links_of (dependencies_of packages rs)) (sym take-next))

first_or-ok : {X : Type 0} (faults : List RowError) (x y : X) → first_or faults x ≡ Ok y → (faults ≡ []) × (x ≡ y)
first_or-ok [] x y h =
    let e : x ≡ y = cc in
    (refl, e)
first_or-ok (f ∷ faults) x y h = cc

first_or-err : {X Y : Type 0} (faults : List RowError) (x : X) (y : Y) (e : RowError) → first_or faults x ≡ Err e → first_or faults y ≡ Err e
first_or-err [] x y e h = cc
first_or-err (f ∷ faults) x y e h =
    let same : f ≡ e = cc in
    ap Err same

pub MatchMemory-map : (fault : RowFault) (P Q R : Type 0) → (Q → R) → MatchMemory fault P Q → MatchMemory fault P R
MatchMemory-map Memory P Q R f h = h
MatchMemory-map NoPackage P Q R f h = f h
MatchMemory-map DuplicatePackage P Q R f h = f h
MatchMemory-map DuplicateFeature P Q R f h = f h
MatchMemory-map UnknownTarget P Q R f h = f h
MatchMemory-map OtherName P Q R f h = f h

module _ (rows : List RowText) where
  module _ (packages : List PackageTable) (read : first_or (faults_by row_fault rows) (packages_of rows) ≡ Ok packages) where
    pub no_fault : (faults_by row_fault rows ≡ []) × (packages_of rows ≡ packages)
    no_fault = first_or-ok (faults_by row_fault rows) (packages_of rows) packages read

    -- an error of the second pass
    pub second_refused : {X : Type 0} (e : RowError) (x : X) → first_or (faults_by (link_fault packages) rows) x ≡ Err e → tables_of rows ≡ Err e
    second_refused e x h = rw (no_fault.0, no_fault.1) (first_or-err (faults_by (link_fault packages) rows) x _ e h)

    -- no error
    pub both_read : (links : List LinkTable) → first_or (faults_by (link_fault packages) rows) (links_of (dependencies_of packages rows)) ≡ Ok links
        → tables_of rows ≡ Ok (record { packages = packages; links = links })
    both_read links h =
        let second = first_or-ok (faults_by (link_fault packages) rows) (links_of (dependencies_of packages rows)) links h in
        rw (no_fault.0, no_fault.1, second.0, second.1)

    pub tables_hold : (links : List LinkTable) → first_or (faults_by (link_fault packages) rows) (links_of (dependencies_of packages rows)) ≡ Ok links
        → (P : Tables → Type 0) → (faults_by row_fault rows ≡ [] → faults_by (link_fault (packages_of rows)) rows ≡ [] → P (record { packages = packages_of rows; links = links_of (dependencies_of (packages_of rows) rows) }))
        → P (record { packages = packages; links = links })
    tables_hold links h P given =
        let second = first_or-ok (faults_by (link_fault packages) rows) (links_of (dependencies_of packages rows)) links h in
        let none : faults_by (link_fault (packages_of rows)) rows ≡ [] = ap (λ ps. faults_by (link_fault ps) rows) no_fault.1 ∙ second.0 in
        let same : links_of (dependencies_of (packages_of rows) rows) ≡ links = ap (λ ps. links_of (dependencies_of ps rows)) no_fault.1 ∙ second.1 in
        subst P (ap₂ (λ ps ls. record { packages = ps; links = ls }) no_fault.1 same) (given no_fault.0 none)
