-- What is answered about a part by some words.
use Rattle.std.specs.Prelude.{◌≡◌, ℕ, List, IsFalse, Option, Some}
use Rattle.cargo_workspaces.specs.Workspaces.{Text, WorkspaceText}
use Rattle.cargo_plans.specs.built_parts.Built.{is_part_built}
use Rattle.cargo_plans.specs.built_parts.Scripts.{lacking_script}
use Rattle.cargo_plans.specs.plan_steps.Plans.{PlanText}
use Rattle.cargo_plans.specs.Plans.{IsPlanOf, WordsText}
use Rattle.cargo_plans.specs.Refusals.{IsRefusal, is_memory}
use Rattle.cargo_plans.specs.declared.fault.PlanFault.{PlanFault}
use Rattle.feats_files.specs.plan_messages.Messages.{plan_message}
use Rattle.plan_rows.specs.declared.side.Side.{Side}
use Rattle.plan_whys.specs.Steps.{WhyText}
use Rattle.plan_whys.specs.Whys.{AnswersBy}
use Rattle.plan_names.specs.wider.widenings.Findings.{IsOff}
use Rattle.feats_why.specs.Unbuilt.{unbuilt_message}
use Rattle.feats_why_not.specs.Parts.{PartText, spot_on}
use Rattle.feats_why_not.specs.Standings.{built_on, standing_of, unbuilt_on}
use Rattle.feats_why_not.specs.Unbuilt.{message_if, unbuilt_at}

-- The steps to the part, if it is built; the message about it, if it is on and isn't built; that it is off; or the message why there is no
-- plan.
pub data AnswerText : Type 0 where
  explained : List WhyText → AnswerText
  unbuilt : Text → AnswerText
  off : AnswerText
  not_planned : Text → AnswerText

-- Why the part is on in a plan of the words, on the first side on which it is built.
pub record IsExplained (w : WorkspaceText) (words : WordsText) (part : PartText) (whys : List WhyText) : Type 0 where
  pub side : Side
  pub plan : PlanText
  pub is_plan : IsPlanOf w words plan
  pub is_built : standing_of words.selection.split plan part ≡ built_on side
  pub is_why : AnswersBy w words plan.on (spot_on side part) (Some whys)

-- The first package that lacks a build script for package `q`, in a plan of the words.
abbrev pub lacking_in : WorkspaceText → WordsText → PlanText → ℕ → Option ℕ
lacking_in w words plan q = lacking_script (is_part_built words.selection.split plan) words.host w.packages q

-- The message about a part that is on, on the side, in the plan of the words and isn't built.
abbrev pub message_on : WorkspaceText → WordsText → PlanText → PartText → Side → Text
message_on w words plan part side = unbuilt_message w.packages words.selection.split (unbuilt_at (lacking_in w words plan part.number) part side)

-- The message about a part, if it is on in the plan of the words and isn't built.
abbrev pub message_in : WorkspaceText → WordsText → PlanText → PartText → Option Text
message_in w words plan part = message_if (message_on w words plan part) (standing_of words.selection.split plan part)

-- The message that the part is on in a plan of the words, but not built.
pub record IsUnbuilt (w : WorkspaceText) (words : WordsText) (part : PartText) (message : Text) : Type 0 where
  pub side : Side
  pub plan : PlanText
  pub is_plan : IsPlanOf w words plan
  pub is_unbuilt : standing_of words.selection.split plan part ≡ unbuilt_on side
  pub is_message : message ≡ message_on w words plan part side

-- The message why the words have no plan.
pub record IsNotPlanned (w : WorkspaceText) (words : WordsText) (message : Text) : Type 0 where
  pub fault : PlanFault
  pub is_fault : IsRefusal w words fault
  pub is_claimed : IsFalse (is_memory fault)
  pub is_message : message ≡ plan_message w.packages fault

-- THE ANSWER about the part, by the words.
abbrev pub IsAnswer : WorkspaceText → WordsText → PartText → AnswerText → Type 0
IsAnswer w words part (explained whys) = IsExplained w words part whys
IsAnswer w words part (unbuilt message) = IsUnbuilt w words part message
IsAnswer w words part off = IsOff w words part.number part.label
IsAnswer w words part (not_planned message) = IsNotPlanned w words message
