-- The platform specs that the declarations of a workspace name, and where each holds.
use Rattle.std.specs.Prelude.{◌≡◌, ℕ, List, Bool, map, filter, length, not}
use Rattle.std.specs.List.{list_any}
use Rattle.std.specs.List.Sorted.{IsStrictlySortedBy}
use Rattle.std.specs.Str.{bytes_eq}
use Rattle.cargo_workspaces.specs.Workspaces.{Text, text_cmp}
use Rattle.plan_rows.specs.platforms.DeclaredSpecs.{DeclaredText}

-- A place: its name, and the test of the specs that hold there.
pub record PlaceText : Type 0 where
  pub name : Text
  pub holds : Text → Bool

-- A spec, and the number of declarations that name it.
pub record CountedText : Type 0 where
  pub spec : Text
  pub count : ℕ

-- A spec, the number of declarations that name it, and the names of the places where it holds and where it doesn't.
pub record ListedText : Type 0 where
  pub spec : Text
  pub count : ℕ
  pub holds : List Text
  pub fails : List Text

-- The specs of declarations, each as often as it is named.
abbrev pub specs_of : List DeclaredText → List Text
specs_of declared = map (λ d. d.text) declared

-- The number of the texts that are this one.
abbrev pub count_of : List Text → Text → ℕ
count_of texts text = length (filter (bytes_eq text) texts)

-- The texts once each, in the order of their bytes.
pub record AreOnce (texts once : List Text) : Type 0 where
  pub ascending : IsStrictlySortedBy text_cmp once
  pub same : (text : Text) → list_any (bytes_eq text) once ≡ list_any (bytes_eq text) texts

abbrev pub counted_of : List Text → Text → CountedText
counted_of texts spec = record { spec = spec; count = count_of texts spec }

-- The names of the places where the spec holds.
abbrev pub holding : List PlaceText → Text → List Text
holding places spec = map (λ p. p.name) (filter (λ p. p.holds spec) places)

-- The names of the places where it doesn't.
abbrev pub failing : List PlaceText → Text → List Text
failing places spec = map (λ p. p.name) (filter (λ p. not (p.holds spec)) places)

abbrev pub listed_of : List PlaceText → CountedText → ListedText
listed_of places c = record { spec = c.spec; count = c.count; holds = holding places c.spec; fails = failing places c.spec }

-- What is shown of the specs of declarations: each spec once, in the order of their bytes.
pub record AreListed (declared : List DeclaredText) (places : List PlaceText) (listed : List ListedText) : Type 0 where
  pub specs : List Text
  pub are_once : AreOnce (specs_of declared) specs
  pub are_listed : listed ≡ map (listed_of places) (map (counted_of (specs_of declared)) specs)
