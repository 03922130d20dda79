-- The packages, features and optional dependencies that words name.
use Rattle.std.specs.Prelude.{ℕ, ◌+◌, List, [], ◌∷◌, ◌++◌, Bool, true, map, drop, nat_eq, not, if◌then◌else◌, codes}
use Rattle.std.specs.List.{after_last, before_last, filter, list_any, starts_with}
use Rattle.std.specs.Str.{bytes_eq}
use Rattle.cargo_workspaces.specs.Workspaces.{Text, PackageText}
use Rattle.plan_words.specs.FeatureWords.{is_slash}
use Rattle.plan_words.specs.PackageWords.{packages_of_word}
use Rattle.plan_words.specs.Patterns.{fits, is_star}

-- A part of a package: itself, a feature, or an optional dependency.
pub data PartText : Type 0 where
  whole : PartText
  feature : Text → PartText
  dependency : Text → PartText

-- A part of the package with the number `owner`.
pub record NamedText : Type 0 where
  pub owner : ℕ
  pub part : PartText

abbrev pub of_package : ℕ → PartText → NamedText
of_package k part = record { owner = k; part = part }

-- The texts, each where it is first.
abbrev pub each_once : List Text → List Text
each_once [] = []
each_once (x ∷ xs) = x ∷ filter (λ y. not (bytes_eq y x)) (each_once xs)

abbrev pub feature_names : PackageText → List Text
feature_names p = map (λ f. f.name) p.features

-- The names of the optional dependencies. Several declarations may have one name.
abbrev pub optional_names : PackageText → List Text
optional_names p = map (λ d. d.name) (filter (λ d. d.optional) p.declarations)

-- The parts of a package that a name means: features, or after `dep:` optional dependencies.
abbrev pub parts_called : Text → PackageText → List PartText
parts_called name p =
    if starts_with nat_eq name (codes "dep:") then map dependency (each_once (filter (fits (drop 4 name)) (optional_names p)))
    else map feature (filter (fits name) (feature_names p))

-- The parts that a name means in the packages whose numbers pass the test; the first package has number `k`.
abbrev pub parts_from : (ℕ → Bool) → Text → ℕ → List PackageText → List NamedText
parts_from test name k [] = []
parts_from test name k (p ∷ ps) =
    (if test k then map (of_package k) (parts_called name p) else []) ++ parts_from test name (k + 1) ps

-- In these packages, and in all packages.
abbrev pub parts_among : List PackageText → List ℕ → Text → List NamedText
parts_among packages numbers name = parts_from (λ k. list_any (nat_eq k) numbers) name 0 packages

abbrev pub parts_anywhere : List PackageText → Text → List NamedText
parts_anywhere packages name = parts_from (λ k. true) name 0 packages

-- The first list, or the second if the first is empty.
abbrev pub or_else : List NamedText → List NamedText → List NamedText
or_else [] others = others
or_else (x ∷ xs) others = x ∷ xs

-- The packages that a word of `-p` names, themselves.
abbrev pub whole_packages : List PackageText → Text → List NamedText
whole_packages packages word = map (λ k. of_package k whole) (packages_of_word packages word)

-- A word with a slash is cut at its last one: a name in the packages that the front names. A word without one is a name in the
-- selected packages, else in all.
abbrev pub parts_by_name : List PackageText → List ℕ → Text → List NamedText
parts_by_name packages selected word =
    if list_any is_slash word then parts_among packages (packages_of_word packages (before_last is_slash word)) (after_last is_slash word)
    else or_else (parts_among packages selected word) (parts_anywhere packages word)

-- All that a word may mean: packages themselves, else parts by name.
abbrev pub candidates : List PackageText → List ℕ → Text → List NamedText
candidates packages selected word = or_else (whole_packages packages word) (parts_by_name packages selected word)

-- Whether the name in a word has a star. The name is what follows the last slash, or the whole word.
abbrev pub has_star : Text → Bool
has_star word = list_any is_star (after_last is_slash word)
