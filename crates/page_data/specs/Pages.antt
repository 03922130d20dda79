-- JSON in which no byte is special in a page.
use Rattle.std.specs.Prelude.{ℕ, List, [], ◌∷◌, ◌++◌, Bool, ◌&&◌, ◌||◌, ◌==◌, codes, if◌then◌else◌}

-- Whether the byte begins or ends markup: `<`, `>` or `&`.
abbrev pub is_markup : ℕ → Bool
is_markup b = b == 60 || b == 62 || b == 38

-- Such a byte is written as an escape of JSON.
abbrev pub safe_byte : ℕ → List ℕ
safe_byte b = if b == 60 then codes "\\u003c" else if b == 62 then codes "\\u003e" else if b == 38 then codes "\\u0026" else b ∷ []

-- U+2028 and U+2029, the separators of lines and paragraphs, are three bytes.
abbrev pub is_separator : ℕ → ℕ → ℕ → Bool
is_separator a b c = a == 226 && b == 128 && (c == 168 || c == 169)

-- The escape of the separator with this third byte.
abbrev pub separator_escape : ℕ → List ℕ
separator_escape c = if c == 168 then codes "\\u2028" else codes "\\u2029"

-- The text with escapes in place of these bytes and separators.
abbrev pub page_safe : List ℕ → List ℕ
page_safe [] = []
page_safe (a ∷ []) = safe_byte a
page_safe (a ∷ b ∷ []) = safe_byte a ++ safe_byte b
page_safe (a ∷ b ∷ c ∷ rest) =
    if is_separator a b c then separator_escape c ++ page_safe rest else safe_byte a ++ page_safe (b ∷ c ∷ rest)
