-- The texts of numbers.
use Rattle.std.specs.Prelude.{◌≡◌, ℕ, List, Some, slice_get}
use Rattle.std.specs.Fmt.{decimal}
use Rattle.cargo_workspaces.specs.Workspaces.{Text}

-- Each text is the decimal text of its place.
abbrev pub AreDecimals : List Text → Type 0
AreDecimals texts = (k : ℕ) (t : Text) → slice_get texts k ≡ Some t → t ≡ decimal k
