-- Feature words: what `--features` has between ASCII white space and commas.
use Rattle.std.specs.Prelude.{ℕ, List, ◌==◌, Bool, not, filter, flat_map, length}
use Rattle.std.specs.Char.{is_ascii_whitespace}
use Rattle.std.specs.List.{slice_split}
use Rattle.clap.specs.Words.{Text}

abbrev pub is_word : Text → Bool
is_word text = not (length text == 0)

abbrev pub is_comma : ℕ → Bool
is_comma b = b == 44

abbrev pub between_commas : Text → List Text
between_commas text = filter is_word (slice_split is_comma text)

-- The words of a text: its parts between white space, each split at commas.
abbrev pub words_in : Text → List Text
words_in text = flat_map between_commas (slice_split is_ascii_whitespace text)
