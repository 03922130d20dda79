-- The packages that words name, as Cargo's package id specs do.
use Rattle.std.specs.Prelude.{ℕ, ◌+◌, List, [], ◌∷◌, ◌++◌, Bool, true, false, length, drop, Result, Ok, Err, nat_eq, not, ◌==◌, ◌&&◌, ◌||◌, if◌then◌else◌, codes, slice_get}
use Rattle.std.specs.List.{after_first, before_first, ends_with, filter, list_any, starts_with}
use Rattle.std.specs.Option.{option_map_or}
use Rattle.std.specs.Str.{bytes_eq}
use Rattle.cargo_workspaces.specs.Workspaces.{Text, PackageText, WorkspaceText}
use Rattle.plan_words.specs.Patterns.{fits}
use Rattle.plan_words.specs.Selections.{ChoiceText, all_but, all_members, default_members, named}
use Rattle.plan_words.specs.Refusals.{Refusal, ambiguous_package, no_packages, unknown_package, ◌>>=◌}

abbrev pub is_hash : ℕ → Bool
is_hash c = c == 35

abbrev pub is_question : ℕ → Bool
is_question c = c == 63

-- A version follows `@` or `:`.
abbrev pub is_mark : ℕ → Bool
is_mark c = c == 64 || c == 58

abbrev pub is_plus : ℕ → Bool
is_plus c = c == 43

-- The numbers of a prerelease's version are before a dash.
abbrev pub has_dash : Text → Bool
has_dash version = list_any (λ c. c == 45) version

-- A version without its build metadata.
abbrev pub without_build : Text → Text
without_build version = before_first is_plus version

-- Whether the version begins with `word` and goes on with a dot.
abbrev pub begins_numbers : Text → Text → Bool
begins_numbers word version = starts_with nat_eq version word && starts_with nat_eq (drop (length word) version) (codes ".")

-- Whether `word` is the version, with or without its build metadata, or a beginning of its numbers. A beginning of the numbers
-- fits no prerelease.
abbrev pub fits_version : Text → Text → Bool
fits_version word version =
    bytes_eq word version
    || bytes_eq word (without_build version)
    || not (has_dash (without_build version)) && begins_numbers word (without_build version)

-- Whether what follows a package's name is nothing, or `@` or `:` and a version that fits.
abbrev pub fits_rest : Text → Text → Bool
fits_rest [] version = true
fits_rest (c ∷ word) version = is_mark c && fits_version word version

-- Whether `word` is the package's name, or its name, `@` or `:`, and a version that fits.
abbrev pub fits_name : Text → PackageText → Bool
fits_name word p = starts_with nat_eq word p.name && fits_rest (drop (length p.name) word) p.version

-- A text without its beginning, if that is `front`.
abbrev pub without : Text → Text → Text
without front text = if starts_with nat_eq text front then drop (length front) text else text

-- The source in a package's id, as `git+https://host/repo?branch=b`, and its URL without the kind and the query.
abbrev pub source_of : PackageText → Text
source_of p = before_first is_hash p.id

abbrev pub url_of : PackageText → Text
url_of p = before_first is_question (without (codes "path+") (without (codes "git+") (without (codes "registry+") (source_of p))))

-- Whether the last part of the URL is the package's name.
abbrev pub is_last_part : PackageText → Bool
is_last_part p = ends_with nat_eq (url_of p) (47 ∷ p.name)

-- Whether what follows the `#` of a URL names the package. It may be a version if the last part of the URL is the name.
abbrev pub fits_fragment : Text → PackageText → Bool
fits_fragment fragment p = fits_name fragment p || is_last_part p && fits_version fragment p.version

abbrev pub is_place : Text → PackageText → Bool
is_place place p = bytes_eq place (source_of p) || bytes_eq place (url_of p)

-- Whether `word` is the package's source or its URL, `#`, and what names the package; or one of the first two alone, if its last part
-- is the name.
abbrev pub fits_url : Text → PackageText → Bool
fits_url word p =
    if list_any is_hash word then is_place (before_first is_hash word) p && fits_fragment (after_first is_hash word) p
    else is_place word p && is_last_part p

-- Whether a word names the package, by its name or by its URL.
abbrev pub is_named : Text → PackageText → Bool
is_named word p = fits_name word p || fits_url word p

abbrev pub has_id : Text → PackageText → Bool
has_id word p = bytes_eq word p.id

-- The numbers of the items that pass the test, ascending; the first item has number `k`.
abbrev pub numbers_from : {X : Type 0} → (X → Bool) → ℕ → List X → List ℕ
numbers_from test k [] = []
numbers_from test k (x ∷ xs) = if test x then k ∷ numbers_from test (k + 1) xs else numbers_from test (k + 1) xs

-- The first list, or the second if the first is empty.
abbrev pub or_else : List ℕ → List ℕ → List ℕ
or_else [] others = others
or_else (n ∷ ns) others = n ∷ ns

-- The numbers of the packages that a word names: the one whose id it is, else those that it names.
abbrev pub packages_of_word : List PackageText → Text → List ℕ
packages_of_word packages word = or_else (numbers_from (has_id word) 0 packages) (numbers_from (is_named word) 0 packages)

-- The members whose names fit a pattern.
abbrev pub has_fitting_name : WorkspaceText → Text → ℕ → Bool
has_fitting_name w pattern m = option_map_or (λ p. fits pattern p.name) (slice_get w.packages m) false

abbrev pub members_fitting : WorkspaceText → Text → List ℕ
members_fitting w pattern = filter (has_fitting_name w pattern) w.members

-- What a word selects: the one package that it names; if it names none, the members that fit it as a pattern.
abbrev pub selected_of : Text → List ℕ → List ℕ → Result (List ℕ) Refusal
selected_of word (p ∷ []) fitting = Ok (p ∷ [])
selected_of word (p ∷ q ∷ more) fitting = Err (ambiguous_package word (p ∷ q ∷ more))
selected_of word [] [] = Err (unknown_package word)
selected_of word [] (m ∷ ms) = Ok (m ∷ ms)

abbrev pub selected_by : WorkspaceText → Text → Result (List ℕ) Refusal
selected_by w word = selected_of word (packages_of_word w.packages word) (members_fitting w word)

-- What the words select, one after the other, or the first refusal.
abbrev pub selected_by_words : WorkspaceText → List Text → Result (List ℕ) Refusal
selected_by_words w [] = Ok []
selected_by_words w (word ∷ words) = selected_by w word >>= λ ps. selected_by_words w words >>= λ more. Ok (ps ++ more)

-- Whether a word excludes a package: it names it, or the package's name fits it as a pattern.
abbrev pub excludes : PackageText → Text → Bool
excludes p word = has_id word p || is_named word p || fits word p.name

abbrev pub is_kept : WorkspaceText → List Text → ℕ → Bool
is_kept w words m = option_map_or (λ p. not (list_any (excludes p) words)) (slice_get w.packages m) false

-- The members that no word excludes.
abbrev pub members_but : WorkspaceText → List Text → List ℕ
members_but w words = filter (is_kept w words) w.members

-- A selection must have a package.
abbrev pub some_of : List ℕ → Result (List ℕ) Refusal
some_of [] = Err no_packages
some_of (p ∷ ps) = Ok (p ∷ ps)

-- The selected packages, in the order of the workspace or of the words.
abbrev pub selected : WorkspaceText → ChoiceText → Result (List ℕ) Refusal
selected w default_members = some_of w.default_members
selected w all_members = some_of w.members
selected w (named words) = selected_by_words w words
selected w (all_but words) = some_of (members_but w words)
