-- Strings of TOML.
use Rattle.std.specs.Prelude.{ℕ, List, [], ◌∷◌, ◌++◌, Bool, ◌||◌, ◌==◌, flat_map, codes, if◌then◌else◌}
use Rattle.shown_texts.specs.Shown.{shown_json}

abbrev pub Text : Type 0
Text = List ℕ

-- Quotes (34) and backslashes (92).
abbrev pub is_special : ℕ → Bool
is_special byte = (byte == 34) || (byte == 92)

-- A backslash is before each quote and each backslash, and a line feed is `\n`.
abbrev pub escaped_byte : ℕ → Text
escaped_byte byte =
    if byte == 10 then codes "\\n"
    else (if is_special byte then 92 ∷ byte ∷ [] else byte ∷ [])

abbrev pub escaped : Text → Text
escaped text = flat_map escaped_byte text

-- A BASIC STRING: the text between quotes, with its control characters as `\u007f`.
unfoldable pub string : Text → Text
string text = codes "\"" ++ shown_json (escaped text) ++ codes "\""

abbrev pub after_comma : Text → Text
after_comma text = codes ", " ++ string text

abbrev pub strings : List Text → Text
strings [] = []
strings (first ∷ more) = string first ++ flat_map after_comma more

-- AN ARRAY of strings, as `["alloc", "std"]`.
unfoldable pub string_array : List Text → Text
string_array texts = codes "[" ++ strings texts ++ codes "]"
