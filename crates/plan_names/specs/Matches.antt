-- What the words of rules name. A star in the name of a package stands for any text, as it does in that of a feature.
use Rattle.std.specs.Prelude.{ℕ, List, [], ◌∷◌, Bool, Result, Ok, Err, map, if◌then◌else◌}
use Rattle.std.specs.List.{after_last, before_last, list_any}
use Rattle.cargo_workspaces.specs.Workspaces.{Text, PackageText}
use Rattle.plan_words.specs.FeatureWords.{is_slash}
use Rattle.plan_words.specs.PackageWords.{numbers_from, packages_of_word}
use Rattle.plan_words.specs.PackageWords as words
use Rattle.plan_names.specs.Faults.{NameRefusal, several, unknown}
use Rattle.plan_words.specs.Patterns.{fits, is_star}
use Rattle.plan_names.specs.Names.{NamedText, of_package, or_else, parts_among, parts_anywhere, whole}

abbrev pub has_name_like : Text → PackageText → Bool
has_name_like pattern p = fits pattern p.name

-- The packages that a word of `-p` names, or else those whose names fit the word.
abbrev pub packages_matching : List PackageText → Text → List ℕ
packages_matching packages word = words.or_else (packages_of_word packages word) (numbers_from (has_name_like word) 0 packages)

-- These packages, themselves.
abbrev pub whole_matching : List PackageText → Text → List NamedText
whole_matching packages word = map (λ k. of_package k whole) (packages_matching packages word)

-- A word with a slash is cut at its last one: a name in the packages that the front names. A word without one is a name in the
-- selected packages, else in all.
abbrev pub matching_by_name : List PackageText → List ℕ → Text → List NamedText
matching_by_name packages selected word =
    if list_any is_slash word then parts_among packages (packages_matching packages (before_last is_slash word)) (after_last is_slash word)
    else or_else (parts_among packages selected word) (parts_anywhere packages word)

-- All that a word may mean: packages themselves, else parts by name.
abbrev pub candidates_matching : List PackageText → List ℕ → Text → List NamedText
candidates_matching packages selected word = or_else (whole_matching packages word) (matching_by_name packages selected word)

-- What a word names, of its candidates: all if it has a star, else the only one.
abbrev pub matching_of : Text → List NamedText → Result (List NamedText) NameRefusal
matching_of word [] = Err (unknown word)
matching_of word (x ∷ []) = Ok (x ∷ [])
matching_of word (x ∷ y ∷ more) = if list_any is_star word then Ok (x ∷ y ∷ more) else Err (several word (x ∷ y ∷ more))

abbrev pub parts_matching : List PackageText → List ℕ → Text → Result (List NamedText) NameRefusal
parts_matching packages selected word = matching_of word (candidates_matching packages selected word)
