-- The value that an answer with its warnings contains.
use Rattle.feats_answers.specs.AnswerViews.{answer_text}
use Rattle.feats_check.specs.checking.WarningViews.{string_texts}
use Rattle.feats_plans.specs.tool.Answers.{AnsweredText}
use Rattle.feats_plans.specs.declared.tool.answered.Answered.{Answered}

abbrev pub answered_text : Answered → AnsweredText
answered_text a = record { answer = answer_text a.answer; warnings = string_texts a.warnings.items }
