-- The text of a message's parts.
use Rattle.std.specs.Prelude.{List, flat_map}
use Rattle.std.specs.Borrow.{Bor}
use Rattle.cargo_workspaces.specs.Workspaces.{Text}

abbrev pub parts_text : List (Bor Text) → Text
parts_text parts = flat_map (λ t. t.now) parts
