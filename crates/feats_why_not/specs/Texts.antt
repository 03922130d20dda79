-- The text about a part that is off.
use Rattle.std.specs.Prelude.{◌≡◌, List, [], ◌∷◌, ◌++◌, Bool, Option, flat_map}
use Rattle.json.specs.Token.{begin_object}
use Rattle.cargo_workspaces.specs.Workspaces.{Text, PackageText, WorkspaceText}
use Rattle.cargo_plans.specs.plan_steps.Plans.{PlanText}
use Rattle.cargo_plans.specs.Plans.{IsPlanOf, WordsText}
use Rattle.feats_words.specs.declared.command_arguments.Format.{Format}
use Rattle.feats_words.specs.declared.command_arguments.Format.TheVariants as format
use Rattle.feats_lines.specs.parts.Members.{object_line}
use Rattle.plan_names.specs.wider.widenings.Widenings.{widened, widenings}
use Rattle.plan_names.specs.declared.wider.widenings.widening.Widening.{Widening}
use Rattle.plan_names.specs.wider.texts.Lines.{head_line, widening_lines}
use Rattle.feats_why_not.specs.Answers.{AnswerText, IsAnswer, message_in}
use Rattle.feats_why_not.specs.Lines.{said_of}
use Rattle.feats_why_not.specs.Objects.{answer_tokens, head_tokens}
use Rattle.feats_why_not.specs.Parts.{PartText, title_of}
use Rattle.feats_why_not.specs.Tries.{TypedText}
use Rattle.feats_why_not.specs.Typed.{IsTyped}

-- The beginning of a text: a line that says that what has this title is off, or the message about it. Objects have none.
abbrev pub head_by : Format → Text → Option Text → Text
head_by format.Text title message = head_line title message
head_by format.Json title message = []

-- The beginning of the text about a part, by the plan of the words.
abbrev pub head_text : Format → WorkspaceText → WordsText → PlanText → PartText → Text
head_text form w words plan part = head_by form (title_of w.packages part) (message_in w words plan part)

-- What is said of a widening, where its words have this answer about the part, and these are the words to type.
abbrev pub section_text : Format → List PackageText → WordsText → Widening → PartText → AnswerText → Option TypedText → Text
section_text format.Text packages words v part answer typed = widening_lines v (said_of packages words answer typed)
section_text format.Json packages words v part answer typed = object_line (begin_object ∷ (head_tokens packages part v ++ answer_tokens packages words answer typed))

-- What is said of a widening, by which the words are these. Those of the command line are `here`.
pub record IsSection (form : Format) (alone : Bool) (w : WorkspaceText) (here words : WordsText) (v : Widening) (part : PartText) (text : Text) : Type 0 where
  pub answer : AnswerText
  pub is_answer : IsAnswer w words part answer
  pub typed : Option TypedText
  pub is_typed : IsTyped alone w here words part answer typed
  pub is_text : text ≡ section_text form w.packages words v part answer typed

-- What is said of it for each widening. `every` is which platform specs hold on every platform.
abbrev pub AreSections : Format → Bool → WorkspaceText → WordsText → (Text → Bool) → PartText → (Widening → Text) → Type 0
AreSections form alone w words every part section = (v : Widening) → IsSection form alone w words (widened every v words) v part (section v)

-- THE TEXT about a part that isn't built in the plan of the words: what is said of it for each widening. `alone` is whether there is no
-- text about another part.
pub record IsWhyNotText (form : Format) (alone : Bool) (w : WorkspaceText) (words : WordsText) (every : Text → Bool) (part : PartText) (text : Text) : Type 0 where
  pub plan : PlanText
  pub is_plan : IsPlanOf w words plan
  pub section : Widening → Text
  pub are_sections : AreSections form alone w words every part section
  pub is_text : text ≡ head_text form w words plan part ++ flat_map section widenings
