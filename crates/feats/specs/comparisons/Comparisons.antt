-- The answer to `diff` about two sides, or the message why there is none.
use Rattle.std.specs.Prelude.{◌≡◌, true}
use Rattle.cargo_workspaces.specs.Workspaces.{Text}
use Rattle.feats_answers.specs.AnswerTexts.{AnswerText}
use Rattle.feats.specs.comparisons.Builds.{build_of}
use Rattle.feats.specs.comparisons.Sides.{SideText}
use Rattle.feats.specs.comparisons.differences.Answers.{IsDiffAnswer}
use Rattle.feats.specs.comparisons.differences.Forms.{form_of}
use Rattle.feats_files.specs.Showing.{shown_in}
use Rattle.feats_plans.specs.Planned.{PlannedText}
use Rattle.feats_plans.specs.Planning.{AfterPlanning, IsPlanningRefusal}
use Rattle.shown_texts.specs.Plain.{is_plain}

-- The answer about the build of the old plan and that of the new side, in the form that the old side asks for.
abbrev pub IsAnswerFor : PlannedText → SideText → AnswerText → Type 0
IsAnswerFor old new answer = AfterPlanning new.inputs new.document (λ p. IsDiffAnswer (form_of old.inputs.arguments.question old.inputs.arguments.format) (build_of old) (build_of p) answer)

-- The message why the new side has no plan.
abbrev pub IsNewRefusal : SideText → Text → Type 0
IsNewRefusal new message = IsPlanningRefusal new.inputs new.document (λ _ _. ⊥) message

-- THE ANSWER about two sides: each has a plan, and the answer is that about their builds.
abbrev pub IsComparison : SideText → SideText → AnswerText → Type 0
IsComparison old new answer = AfterPlanning old.inputs old.document (λ p. IsAnswerFor p new answer)

-- THE TEXT that is written: that of the answer, in which each control character but the line feeds is escaped; no other is in it.
pub record IsShown (old new : SideText) (shown : AnswerText) : Type 0 where
  pub answer : AnswerText
  pub is_comparison : IsComparison old new answer
  pub content : shown.content ≡ shown_in old.inputs.arguments.format answer.content
  pub plain : is_plain shown.content ≡ true
  pub is_negative : shown.is_negative ≡ answer.is_negative

-- The message why there is none: the fault of the old side, and else that of the new one.
abbrev pub IsNoComparison : SideText → SideText → Text → Type 0
IsNoComparison old new message = IsPlanningRefusal old.inputs old.document (λ _. IsNewRefusal new) message
