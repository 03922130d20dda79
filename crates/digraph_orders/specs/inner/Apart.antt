-- Lists without repeats.
use Rattle.std.specs.Prelude.{◌≢◌, ℕ, ◌<◌, List, length, slice_index}

-- No number is in the list twice.
abbrev pub AreApart : List ℕ → Type 0
AreApart list = (i j : ℕ) → i < j → j < length list → slice_index list i ≢ slice_index list j
