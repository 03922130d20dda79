-- The row of a line, from its fields.
use Rattle.std.specs.Prelude.{List, [], ◌∷◌, Bool, true, false, Option, None, Some, if◌then◌else◌, codes}
use Rattle.std.specs.Str.{bytes_eq}
use Rattle.guppy_packages.specs.Rows.{Text, RowText, a_package, a_feature, a_dep}
use Rattle.guppy_packages.specs.declared.row.DependencyKind.{DependencyKind}
use Rattle.guppy_packages.specs.declared.row.DependencyKind.TheVariants.{Normal, Build, Development}

-- Whether the word is the first or the second of two words; `None` if it is neither.
abbrev pub choice : Text → Text → Text → Option Bool
choice true_word false_word word = if bytes_eq word true_word then Some true else (if bytes_eq word false_word then Some false else None)

abbrev pub kind_of : Text → Option DependencyKind
kind_of word =
    if bytes_eq word (codes "normal") then Some Normal
    else (if bytes_eq word (codes "build") then Some Build
    else (if bytes_eq word (codes "dev") then Some Development else None))

-- The platform; `*` is every platform.
abbrev pub platform_of : Text → Option Text
platform_of text = if bytes_eq text (codes "*") then None else Some text

infixl 10 ◌>>=◌
abbrev pub ◌>>=◌ : {A B : Type 0} → Option A → (A → Option B) → Option B
None >>= f = None
(Some x) >>= f = f x

abbrev pub package_row : List Text → Option RowText
package_row (id ∷ place ∷ []) = choice (codes "workspace") (codes "external") place >>= λ b. Some (a_package id b)
package_row _ = None

abbrev pub feature_row : List Text → Option RowText
feature_row [] = None
feature_row (name ∷ items) = Some (a_feature name items)

abbrev pub dep_row : List Text → Option RowText
dep_row (name ∷ target ∷ kind ∷ need ∷ platform ∷ defaults ∷ features) = do
  k ← kind_of kind
  o ← choice (codes "optional") (codes "required") need
  d ← choice (codes "default") (codes "nodefault") defaults
  Some (a_dep name target (record { kind = k; optional = o; platform = platform_of platform; default_features = d; features = features }))
dep_row _ = None

-- The row of a line's fields, or `None` if they are malformed.
abbrev pub row_of : List Text → Option RowText
row_of [] = None
row_of (word ∷ fields) =
    if bytes_eq word (codes "package") then package_row fields
    else (if bytes_eq word (codes "feature") then feature_row fields
    else (if bytes_eq word (codes "dep") then dep_row fields else None))
