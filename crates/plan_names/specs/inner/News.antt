-- Texts without repeats.
use Rattle.std.specs.Prelude.{List, [], ◌∷◌, ◌++◌, if◌then◌else◌}
use Rattle.std.specs.List.{list_any}
use Rattle.std.specs.Str.{bytes_eq}
use Rattle.cargo_workspaces.specs.Workspaces.{Text}

-- The texts, and one more at their end if it isn't among them.
abbrev pub with_new : List Text → Text → List Text
with_new names name = if list_any (bytes_eq name) names then names else names ++ name ∷ []
