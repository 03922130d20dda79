-- Paths from a folder.
use Rattle.std.specs.Prelude.{ℕ, ◌-◌, List, [], ◌∷◌, ◌++◌, Bool, not, ◌||◌, ◌==◌, filter, flat_map, length, map, take, codes, if◌then◌else◌}
use Rattle.std.specs.List.{slice_split}
use Rattle.std.specs.Str.{bytes_eq}
use Rattle.build_summaries.specs.Strings.{Text}

-- Slashes (47), and the backslashes (92) of Windows.
abbrev pub is_separator : ℕ → Bool
is_separator byte = (byte == 47) || (byte == 92)

abbrev pub is_filled : Text → Bool
is_filled text = not (length text == 0)

-- The names in a path.
abbrev pub names_in : Text → List Text
names_in path = filter is_filled (slice_split is_separator path)

-- The names of the folder of a file: all but the last.
abbrev pub folder_of : Text → List Text
folder_of file = take (length (names_in file) - 1) (names_in file)

-- A way up for each name.
abbrev pub up : List Text → List Text
up names = map (λ _. codes "..") names

-- The names on the way from the folder `from` to the folder `to`: up to the last folder that both are in, and then down.
abbrev pub way : List Text → List Text → List Text
way [] to = to
way (a ∷ from) [] = up (a ∷ from)
way (a ∷ from) (b ∷ to) = if bytes_eq a b then way from to else up (a ∷ from) ++ b ∷ to

abbrev pub after_slash : Text → Text
after_slash name = 47 ∷ name

-- The names, with a slash between two of them.
abbrev pub slashed : List Text → Text
slashed [] = []
slashed (first ∷ more) = first ++ flat_map after_slash more

-- THE PATH from a folder to the folder of a file, with forward slashes.
abbrev pub path_from : Text → Text → Text
path_from root file = slashed (way (names_in root) (folder_of file))
