-- The fields of a line are determined by its form and its kept fields.
use Rattle.std.proofs.Common.{◌≡◌, ◌≤◌, ◌<◌, List, [], ◌∷◌, Bool, true, false, None, Some, if◌then◌else◌, codes, get_or, length, sym, ap, ◌∙◌, refl, arith}
use Rattle.std.proofs.lemmas.Slice.Eq.{bytes_eq-Decides}
use Rattle.std.specs.Str.{bytes_eq}
use Rattle.std.specs.Borrow.{Bor}
use Rattle.guppy_packages.specs.Rows.{Text, texts}
use Rattle.guppy_packages.specs.declared.row.DependencyKind.{DependencyKind}
use Rattle.guppy_packages.specs.declared.row.DependencyKind.TheVariants.{Normal, Build, Development}
use Rattle.row_files.specs.RowOfLine.{choice, kind_of}
use Rattle.row_files.specs.Forms.{word_of, kind_word, fields_of}
use Rattle.row_files.specs.declared.line.Form.TheVariants as form
use Rattle.row_files.specs.inner.KeptFields.{kept_of}

same_text : (xs ys : Text) → bytes_eq xs ys ≡ true → xs ≡ ys
same_text xs ys e = (bytes_eq-Decides xs ys).0 e

-- The word of a choice.
chosen : (true_word false_word word : Text) (b : Bool) → Some b ≡ choice true_word false_word word → word ≡ word_of true_word false_word b
chosen true_word false_word word b e = by (bytes_eq word true_word) (bytes_eq word false_word) refl refl e
  where
    by : (p q : Bool) → bytes_eq word true_word ≡ p → bytes_eq word false_word ≡ q → Some b ≡ (if p then Some true else (if q then Some false else None)) → word ≡ word_of true_word false_word b
    by true q is_true is_false e =
        let same : true ≡ b = cc in
        same_text word true_word is_true ∙ ap (word_of true_word false_word) same
    by false true is_true is_false e =
        let same : false ≡ b = cc in
        same_text word false_word is_false ∙ ap (word_of true_word false_word) same
    by false false is_true is_false e = absurd (cc)

-- The word of a kind.
kind_chosen : (word : Text) (kind : DependencyKind) → Some kind ≡ kind_of word → word ≡ kind_word kind
kind_chosen word kind e = by (bytes_eq word (codes "normal")) (bytes_eq word (codes "build")) (bytes_eq word (codes "dev")) refl refl refl e
  where
    by : (p q r : Bool) → bytes_eq word (codes "normal") ≡ p → bytes_eq word (codes "build") ≡ q → bytes_eq word (codes "dev") ≡ r
        → Some kind ≡ (if p then Some Normal else (if q then Some Build else (if r then Some Development else None))) → word ≡ kind_word kind
    by true q r is_normal is_build is_dev e = let same : Normal ≡ kind = cc in same_text word (codes "normal") is_normal ∙ ap kind_word same
    by false true r is_normal is_build is_dev e = let same : Build ≡ kind = cc in same_text word (codes "build") is_build ∙ ap kind_word same
    by false false true is_normal is_build is_dev e = let same : Development ≡ kind = cc in same_text word (codes "dev") is_dev ∙ ap kind_word same
    by false false false is_normal is_build is_dev e = absurd (cc)

pub package_fields : (fields : List (Bor Text)) (d : Bor Text) (b : Bool) → 2 ≤ length fields → length fields < 3 → Some b ≡ choice (codes "workspace") (codes "external") (get_or fields 1 d).now
    → fields_of (form.Package b) (kept_of (form.Package b) (codes "package" ∷ texts fields)) ≡ codes "package" ∷ texts fields
package_fields [] d b low high e = absurd (omega arith)
package_fields (id ∷ []) d b low high e = absurd (omega arith)
package_fields (id ∷ place ∷ []) d b low high e = ap (λ w. codes "package" ∷ id.now ∷ w ∷ []) (sym (chosen (codes "workspace") (codes "external") place.now b e))
package_fields (id ∷ place ∷ more ∷ fields) d b low high e = absurd (omega arith)

pub platform_dep_fields : (fields : List (Bor Text)) (d : Bor Text) (kind : DependencyKind) (optional defaults : Bool) → 6 ≤ length fields → Some kind ≡ kind_of (get_or fields 2 d).now
    → Some optional ≡ choice (codes "optional") (codes "required") (get_or fields 3 d).now → Some defaults ≡ choice (codes "default") (codes "nodefault") (get_or fields 5 d).now
    → fields_of (form.PlatformDep kind optional defaults) (kept_of (form.PlatformDep kind optional defaults) (codes "dep" ∷ texts fields)) ≡ codes "dep" ∷ texts fields
platform_dep_fields [] d kind optional defaults low k o w = absurd (omega arith)
platform_dep_fields (name ∷ []) d kind optional defaults low k o w = absurd (omega arith)
platform_dep_fields (name ∷ target ∷ []) d kind optional defaults low k o w = absurd (omega arith)
platform_dep_fields (name ∷ target ∷ of_kind ∷ []) d kind optional defaults low k o w = absurd (omega arith)
platform_dep_fields (name ∷ target ∷ of_kind ∷ need ∷ []) d kind optional defaults low k o w = absurd (omega arith)
platform_dep_fields (name ∷ target ∷ of_kind ∷ need ∷ platform ∷ []) d kind optional defaults low k o w = absurd (omega arith)
platform_dep_fields (name ∷ target ∷ of_kind ∷ need ∷ platform ∷ with ∷ features) d kind optional defaults low k o w =
    ap (λ t. codes "dep" ∷ name.now ∷ target.now ∷ t ∷ word_of (codes "optional") (codes "required") optional ∷ platform.now ∷ word_of (codes "default") (codes "nodefault") defaults ∷ texts features) (sym (kind_chosen of_kind.now kind k))
    ∙ ap (λ t. codes "dep" ∷ name.now ∷ target.now ∷ of_kind.now ∷ t ∷ platform.now ∷ word_of (codes "default") (codes "nodefault") defaults ∷ texts features) (sym (chosen (codes "optional") (codes "required") need.now optional o))
    ∙ ap (λ t. codes "dep" ∷ name.now ∷ target.now ∷ of_kind.now ∷ need.now ∷ platform.now ∷ t ∷ texts features) (sym (chosen (codes "default") (codes "nodefault") with.now defaults w))

pub dep_fields : (fields : List (Bor Text)) (d : Bor Text) (kind : DependencyKind) (optional defaults : Bool) → 6 ≤ length fields → Some kind ≡ kind_of (get_or fields 2 d).now
    → Some optional ≡ choice (codes "optional") (codes "required") (get_or fields 3 d).now → Some defaults ≡ choice (codes "default") (codes "nodefault") (get_or fields 5 d).now
    → true ≡ bytes_eq (get_or fields 4 d).now (codes "*")
    → fields_of (form.Dep kind optional defaults) (kept_of (form.Dep kind optional defaults) (codes "dep" ∷ texts fields)) ≡ codes "dep" ∷ texts fields
dep_fields [] d kind optional defaults low k o w p = absurd (omega arith)
dep_fields (name ∷ []) d kind optional defaults low k o w p = absurd (omega arith)
dep_fields (name ∷ target ∷ []) d kind optional defaults low k o w p = absurd (omega arith)
dep_fields (name ∷ target ∷ of_kind ∷ []) d kind optional defaults low k o w p = absurd (omega arith)
dep_fields (name ∷ target ∷ of_kind ∷ need ∷ []) d kind optional defaults low k o w p = absurd (omega arith)
dep_fields (name ∷ target ∷ of_kind ∷ need ∷ platform ∷ []) d kind optional defaults low k o w p = absurd (omega arith)
dep_fields (name ∷ target ∷ of_kind ∷ need ∷ platform ∷ with ∷ features) d kind optional defaults low k o w p =
    ap (λ t. codes "dep" ∷ name.now ∷ target.now ∷ t ∷ word_of (codes "optional") (codes "required") optional ∷ codes "*" ∷ word_of (codes "default") (codes "nodefault") defaults ∷ texts features) (sym (kind_chosen of_kind.now kind k))
    ∙ ap (λ t. codes "dep" ∷ name.now ∷ target.now ∷ of_kind.now ∷ t ∷ codes "*" ∷ word_of (codes "default") (codes "nodefault") defaults ∷ texts features) (sym (chosen (codes "optional") (codes "required") need.now optional o))
    ∙ ap (λ t. codes "dep" ∷ name.now ∷ target.now ∷ of_kind.now ∷ need.now ∷ codes "*" ∷ t ∷ texts features) (sym (chosen (codes "default") (codes "nodefault") with.now defaults w))
    ∙ ap (λ t. codes "dep" ∷ name.now ∷ target.now ∷ of_kind.now ∷ need.now ∷ t ∷ with.now ∷ texts features) (sym (same_text platform.now (codes "*") (sym p)))
