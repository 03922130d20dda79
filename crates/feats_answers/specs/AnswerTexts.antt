-- The answer to a question: its text, and whether it is no.
use Rattle.std.specs.Prelude.{◌≡◌, Bool, true, false}
use Rattle.cargo_workspaces.specs.Workspaces.{Text}

pub record AnswerText : Type 0 where
  pub content : Text
  pub is_negative : Bool

abbrev pub positive : Text → AnswerText
positive text = record { content = text; is_negative = false }

abbrev pub negative : Text → AnswerText
negative text = record { content = text; is_negative = true }

-- An answer that isn't negative, with such a text.
pub record IsPositive (claim : Text → Type 0) (answer : AnswerText) : Type 0 where
  pub is_positive : answer.is_negative ≡ false
  pub is_text : claim answer.content
