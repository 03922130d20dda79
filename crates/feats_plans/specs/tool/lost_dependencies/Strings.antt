-- The texts that strings contain.
use Rattle.std.specs.Prelude.{List, String, map, string_bytes}
use Rattle.std.specs.Global.{Global}
use Rattle.cargo_workspaces.specs.Workspaces.{Text}

abbrev pub string_texts : List (String Global) → List Text
string_texts = map string_bytes
