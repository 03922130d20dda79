-- What a run has written of its answer.
use Rattle.std.specs.Prelude.{◌≡◌, ◌++◌, Option, Bool, true, false}
use Rattle.std.specs.Io.KnownBytes.{Appends}
use Rattle.cargo_workspaces.specs.Workspaces.{Text}

-- The whole text was appended to `old`; or, if a write failed, a beginning of it.
abbrev pub Writes : Bool → Text → Option Text → Option Text → Type 0
Writes true text old new = Appends old new text
Writes false text old new = (front rest : Text) × (text ≡ front ++ rest) × Appends old new front
