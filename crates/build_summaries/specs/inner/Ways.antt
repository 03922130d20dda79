-- Ways that begin alike.
use Rattle.std.specs.Prelude.{List, ◌∷◌, Bool, false}
use Rattle.std.specs.Str.{bytes_eq}
use Rattle.build_summaries.specs.Strings.{Text}

-- Whether both begin with the same name.
abbrev pub begin_alike : List Text → List Text → Bool
begin_alike (a ∷ from) (b ∷ to) = bytes_eq a b
begin_alike _ _ = false
