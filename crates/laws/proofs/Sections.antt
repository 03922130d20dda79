-- Rows by package, and the conditions under which they have no fault.
use Rattle.std.proofs.Common.{◌≡◌, ◌⊎◌, Bool, false, true, List, [], ◌∷◌, ◌++◌, map}
use Rattle.std.specs.List.{AllByRecursion, list_any}
use Rattle.std.specs.Str.{bytes_eq}
use Rattle.cargo_workspaces.specs.Workspaces.{FeatureText}
use Rattle.workspace_documents.specs.Dependencies.{DependencyText, name_of}
use Rattle.workspace_documents.specs.Packages.{PackageText}
use Rattle.guppy_packages.specs.Rows.{RowText, Text}
use Rattle.laws.specs.rows.Rows.{package_rows}

-- A package, and its declarations that lead to a package.
pub record Section : Type 0 where
  pub is_member : Bool
  pub text : PackageText
  pub es : List DependencyText

abbrev pub section_rows : Section → List RowText
section_rows s = package_rows s.is_member s.text s.es

abbrev pub rows_in : List Section → List RowText
rows_in [] = []
rows_in (s ∷ sections) = section_rows s ++ rows_in sections

abbrev pub ids_of : List Section → List Text
ids_of sections = map (λ s. s.text.id) sections

abbrev pub names_of : List FeatureText → List Text
names_of features = map (λ f. f.name) features

-- No text is in `done`, or is one of those before it.
abbrev pub AreFresh : List Text → List Text → Type 0
AreFresh done [] = Unit {0}
AreFresh done (x ∷ xs) = (list_any (bytes_eq x) done ≡ false) × AreFresh (done ++ x ∷ []) xs

abbrev pub Among : DependencyText → List DependencyText → Type 0
Among e [] = ⊥
Among e (x ∷ es) = (x ≡ e) ⊎ Among e es

-- Declarations that lead to one package have one name.
abbrev pub Agree : List DependencyText → Type 0
Agree es = (a b : DependencyText) → Among a es → Among b es → a.target.id ≡ b.target.id → name_of a.declaration ≡ name_of b.declaration

-- The features have different names, each target is one of `ids`, and declarations of one target have one name.
pub record IsSound (ids : List Text) (s : Section) : Type 0 where
  pub names : AreFresh [] (names_of s.text.features)
  pub known : AllByRecursion (λ (e : DependencyText). list_any (bytes_eq e.target.id) ids ≡ true) s.es
  pub agree : Agree s.es
