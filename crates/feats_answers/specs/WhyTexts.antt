-- The text about why a feature is on.
use Rattle.std.specs.Prelude.{◌≡◌, List, [], ◌∷◌, ◌++◌, Bool, true, false, flat_map, Option, None, Some, codes}
use Rattle.cargo_plans.specs.built_parts.Built.{is_part_built, state_of}
use Rattle.cargo_plans.specs.declared.built_parts.state.PartState.TheVariants.{Built}
use Rattle.cargo_workspaces.specs.Workspaces.{Text, PackageText, WorkspaceText}
use Rattle.cargo_plans.specs.Plans.{WordsText}
use Rattle.plan_names.specs.Names.{NamedText}
use Rattle.plan_rows.specs.declared.side.Side.TheVariants.{Target, Host}
use Rattle.cargo_plans.specs.plan_steps.Plans.{PlanText}
use Rattle.plan_whys.specs.Reasons.{AreReasoned}
use Rattle.plan_whys.specs.Steps.{ReasonedText, SpotText, WhyText}
use Rattle.plan_whys.specs.Whys.{AnswersBy}
use Rattle.feats_why.specs.Lines.{why_lines}
use Rattle.feats_why.specs.Objects.{why_objects}
use Rattle.feats_why.specs.ReasonedLines.{reasoned_lines}
use Rattle.feats_why.specs.ReasonedObjects.{reasoned_objects}
use Rattle.feats_why.specs.Settings.{settings_of}
use Rattle.feats_words.specs.declared.command_arguments.Format.{Format}
use Rattle.feats_words.specs.declared.command_arguments.Format.TheVariants as format
use Rattle.feats_answers.specs.AnswerTexts.{AnswerText}
use Rattle.feats_answers.specs.BuiltSpots.{spots_in, unbuilt_text_of}
use Rattle.feats_answers.specs.Gathered.{AreShown, gathered}
use Rattle.feats_answers.specs.Parts.{spot_on}
use Rattle.feats_answers.specs.WhyParts.{AreWhyParts}

-- The text of the steps of an explanation.
abbrev pub steps_text : Format → List PackageText → WordsText → List WhyText → Text
steps_text format.Text packages words steps = why_lines packages (settings_of words) steps
steps_text format.Json packages words steps = why_objects packages (settings_of words) steps

-- The same with every direct reason of each step.
abbrev pub reasoned_text : Format → List PackageText → WordsText → List ReasonedText → Text
reasoned_text format.Text packages words steps = reasoned_lines packages (settings_of words) steps
reasoned_text format.Json packages words steps = reasoned_objects packages (settings_of words) steps

-- The text with every direct reason in the plan.
pub record IsReasonedText (form : Format) (packages : List PackageText) (words : WordsText) (plan : PlanText) (steps : List WhyText) (text : Text) : Type 0 where
  pub reasoned : List ReasonedText
  pub are_reasoned : AreReasoned plan.on steps reasoned
  pub is_text : text ≡ reasoned_text form packages words reasoned

-- The text of an explanation, which has every direct reason if `all` is true.
abbrev pub IsStepsText : Format → Bool → List PackageText → WordsText → PlanText → List WhyText → Text → Type 0
IsStepsText form true packages words plan steps text = IsReasonedText form packages words plan steps text
IsStepsText form false packages words plan steps text = text ≡ steps_text form packages words steps

-- `shown` contains the text of the steps that were found, and is empty if none were.
abbrev pub IsFoundShown : Format → Bool → List PackageText → WordsText → PlanText → Option (List WhyText) → List Text → Type 0
IsFoundShown form all packages words plan None shown = shown ≡ []
IsFoundShown form all packages words plan (Some steps) shown = (text : Text) × IsStepsText form all packages words plan steps text × (shown ≡ text ∷ [])

-- `shown` contains the text of the steps to `spot` if it is on, and is empty if it is off.
pub record IsSpotShown (form : Format) (all : Bool) (w : WorkspaceText) (words : WordsText) (plan : PlanText) (spot : SpotText) (shown : List Text) : Type 0 where
  pub found : Option (List WhyText)
  pub is_found : AnswersBy w words plan.on spot found
  pub is_shown : IsFoundShown form all w.packages words plan found shown

-- A part on the target side, and then on the host side.
abbrev pub spots_of_part : NamedText → List SpotText
spots_of_part part = spot_on Target part ∷ spot_on Host part ∷ []

abbrev pub off_end : Text
off_end = codes " is off in this build: ask why-not\n"

-- The text, unless it is empty.
abbrev pub unless_empty : Text → List Text
unless_empty [] = []
unless_empty (b ∷ bs) = (b ∷ bs) ∷ []

abbrev pub is_none : List Text → Bool
is_none [] = true
is_none (first ∷ more) = false

-- These texts. If there is none, the line that says no.
abbrev pub gathered_why : Format → List PackageText → Text → List NamedText → List Text → AnswerText
gathered_why form packages word parts texts = gathered form packages word parts off_end texts

-- The answer: the texts `shown`, which explain built parts, and then `lines` about unbuilt parts. It is negative if `shown` is empty.
abbrev pub answer_of : Format → List PackageText → Text → List NamedText → List Text → Text → AnswerText
answer_of form packages word parts shown lines = record {
  content = (gathered_why form packages word parts (shown ++ unless_empty lines)).content;
  is_negative = is_none shown;
}

-- The answer to `why` with a word that names these parts: why each that is built is on, side by side, and then a line for each that is on
-- and not built. With `all` it has every direct reason of each step.
pub record IsWhyAnswerOf (form : Format) (all : Bool) (w : WorkspaceText) (words : WordsText) (plan : PlanText) (word : Text) (parts : List NamedText) (answer : AnswerText) : Type 0 where
  pub shown : List Text
  pub are_shown : AreShown (IsSpotShown form all w words plan) (spots_in (state_of words.selection.split plan) Built (flat_map spots_of_part parts)) shown
  pub is_answer : answer ≡ answer_of form w.packages word parts shown
      (unbuilt_text_of form w.packages words (state_of words.selection.split plan) (is_part_built words.selection.split plan) (flat_map spots_of_part parts))

-- The answer to `why` with this word.
pub record IsWhyAnswer (form : Format) (all : Bool) (w : WorkspaceText) (words : WordsText) (plan : PlanText) (word : Text) (answer : AnswerText) : Type 0 where
  pub parts : List NamedText
  pub are_parts : AreWhyParts w words plan word parts
  pub is_answer : IsWhyAnswerOf form all w words plan word parts answer
