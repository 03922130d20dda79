-- The position at which a reader stops in a text.
use Rattle.std.specs.Prelude.{◌≡◌, ℕ, ◌≤◌, ◌⊎◌, List, ◌∷◌, ◌++◌, length, Option, Some, None, codes, if◌then◌else◌}
use Rattle.std.specs.Str.{chars, encode_utf8_all}
use Rattle.platform_specs.specs.Grammar.{Spaced, Spells, is_in_platform}
use Rattle.platform_specs.specs.inner.Parts.{parts_of, expression_of}
use Rattle.platform_specs.specs.inner.Runs.{run}
use Rattle.platform_specs.specs.inner.Reading.{Reading, finished, read_step, at_first}
use Rattle.platform_specs.specs.declared.expression_reader.Unread.{Unread}
use Rattle.platform_specs.specs.declared.expression_reader.Unread.TheVariants.{Left, Memory}
use Rattle.platform_specs.specs.declared.parts.Part.{Part}

-- the reader can't go on at `left` bytes before the text's end
pub record Stopped {S : Type 0} (step : S → ℕ → Option S) (start : S) (text : List ℕ) (left : ℕ) : Type 0 where
  pub front : List ℕ
  pub c : ℕ
  pub rest : List ℕ
  pub state : S
  pub parts : chars text ≡ front ++ c ∷ rest
  pub place : left ≡ length (encode_utf8_all (c ∷ rest))
  pub reads : run step front start ≡ Some state
  pub stops : step state c ≡ None

-- the reader has read the whole text
pub record ReadAll {S : Type 0} (step : S → ℕ → Option S) (start : S) (text : List ℕ) (state : S) : Type 0 where
  pub reads : run step (chars text) start ≡ Some state

-- the text is an expression with these parts, then ')'
pub record SpelledBy (text : List ℕ) (ps : List Part) : Type 0 where
  pub inner : List ℕ
  pub parts : chars text ≡ inner ++ codes ")"
  pub spells : Spaced (Spells (expression_of ps)) inner
  pub marks : parts_of (expression_of ps) ≡ ps

-- the text ends before the expression does
pub record Unfinished (text : List ℕ) : Type 0 where
  pub state : Reading
  pub reads : run read_step (chars text) at_first ≡ Some state
  pub open_yet : state.place ≡ finished → ⊥

abbrev pub IsUnread : List ℕ → Unread → Type 0
IsUnread text (Left left) = (left ≤ length text) × (Stopped read_step at_first text left ⊎ ((left ≡ 0) × Unfinished text))
IsUnread text Memory = Unit {0}

-- the step of a reader of platform names
abbrev pub platform_step : Unit {0} → ℕ → Option (Unit {0})
platform_step s c = if is_in_platform c then Some tt else None
