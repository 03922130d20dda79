-- The reader of the lines of a cfg text.
use Rattle.std.specs.Prelude.{◌≡◌, ℕ, ◌⊎◌, Bool, true, false, ◌==◌, List, [], ◌∷◌, ◌++◌, Option, Some, None}
use Rattle.std.specs.List.{slice_split}
use denote.Ref.{Bor}
use Rattle.platform_specs.specs.Facts.{FactText}
use Rattle.platform_specs.specs.Grammar.{SpellsLine, lines_of}
use Rattle.platform_specs.specs.Faults.{IsMalformedLine}

-- the remaining text, split at each line feed
abbrev pub pieces_behind : Option (Bor (List ℕ)) → List (List ℕ)
pieces_behind None = []
pieces_behind (Some rest) = slice_split (λ b. b == 10) rest.now

-- the lines of the remaining text
abbrev pub lines_behind : Option (Bor (List ℕ)) → List (List ℕ)
lines_behind None = []
lines_behind (Some rest) = lines_of rest.now

-- an empty line adds nothing, another line adds its fact, and a line that can't be read is malformed
abbrev pub ReadsLine : Bool → List ℕ → List FactText → List FactText → Type 0
ReadsLine true line old new = ((line ≡ []) × (new ≡ old)) ⊎ ((line ≡ [] → ⊥) × ((f : FactText) × SpellsLine f line × (new ≡ old ++ f ∷ [])))
ReadsLine false line old new = IsMalformedLine line
