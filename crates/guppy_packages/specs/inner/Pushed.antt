-- Texts that are appended to one another.
use Rattle.std.specs.Prelude.{◌≡◌, ℕ, ◌+◌, List, [], ◌∷◌, ◌++◌, length}
use Rattle.std.specs.List.{AllByRecursion}
use Rattle.std.specs.Str.{IsUtf8}
use Rattle.guppy_packages.specs.Rows.{Text}

abbrev pub joined : List Text → Text
joined [] = []
joined (x ∷ xs) = x ++ joined xs

-- The end of each text, if the first begins at `from`.
abbrev pub ends_from : ℕ → List Text → List ℕ
ends_from from [] = []
ends_from from (x ∷ xs) = (from + length x) ∷ ends_from (from + length x) xs

-- `texts` were appended to one another, and they end at `ends`.
pub record IsPushed (texts : List Text) (whole : Text) (ends : List ℕ) : Type 0 where
  pub text : whole ≡ joined texts
  pub places : ends ≡ ends_from 0 texts
  pub utf8 : AllByRecursion IsUtf8 texts
