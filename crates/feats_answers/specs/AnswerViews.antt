-- The values that answers and texts contain.
use Rattle.std.specs.Prelude.{ℕ, List, map}
use Rattle.std.specs.Global.{Vec}
use Rattle.cargo_workspaces.specs.Workspaces.{Text}
use Rattle.feats_answers.specs.AnswerTexts.{AnswerText}
use Rattle.feats_answers.specs.declared.answer.Answer.{Answer}

abbrev pub answer_text : Answer → AnswerText
answer_text a = record { content = a.text.items; is_negative = a.is_negative }

abbrev pub texts_of : List (Vec ℕ) → List Text
texts_of texts = map (λ t. t.items) texts
