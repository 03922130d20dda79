-- The words for packages in lists of candidates.
use Rattle.std.specs.Prelude.{ℕ, List, [], ◌∷◌, ◌++◌, Bool, false, ◌==◌, slice_get, codes, if◌then◌else◌}
use Rattle.std.specs.Option.{option_map_or}
use Rattle.cargo_workspaces.specs.Workspaces.{Text, PackageText}
use Rattle.plan_words.specs.PackageWords.{packages_of_word}

-- The name of a package, `@` and its version.
abbrev pub versioned : PackageText → Text
versioned p = p.name ++ (codes "@" ++ p.version)

-- Whether the list contains this number and no other.
abbrev pub is_only : ℕ → List ℕ → Bool
is_only n (only ∷ []) = only == n
is_only n _ = false

-- The word for a package and its number: NAME@VERSION if that names the package alone, and its id otherwise.
abbrev pub word_of : List PackageText → ℕ → PackageText → Text
word_of packages n p = if is_only n (packages_of_word packages (versioned p)) then versioned p else p.id

-- The word for package `n`; no text, if there is no such package.
abbrev pub word_at : List PackageText → ℕ → Text
word_at packages n = option_map_or (word_of packages n) (slice_get packages n) []
