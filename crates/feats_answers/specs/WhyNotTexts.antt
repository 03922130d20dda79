-- The text about which wider selections turn on a feature that isn't built.
use Rattle.std.specs.Prelude.{◌≡◌, ℕ, List, Bool, not, filter, map, codes}
use Rattle.std.specs.List.{AllZip}
use Rattle.cargo_plans.specs.built_parts.Built.{is_part_built}
use Rattle.feature_labels.specs.Names.{LabelName}
use Rattle.cargo_workspaces.specs.Workspaces.{Text, WorkspaceText}
use Rattle.cargo_plans.specs.Plans.{WordsText}
use Rattle.plan_names.specs.Names.{NamedText}
use Rattle.plan_rows.specs.platforms.DeclaredSpecs.{DeclaredText}
use Rattle.plan_rows.specs.platforms.HeldSpecs.{is_declared}
use Rattle.plan_rows.specs.declared.side.Side.{Side}
use Rattle.cargo_plans.specs.plan_steps.Plans.{PlanText}
use Rattle.feats_why_not.specs.Parts.{PartText}
use Rattle.feats_why_not.specs.Texts.{IsWhyNotText}
use Rattle.feats_why_not.specs.Typed.{is_single}
use Rattle.feats_words.specs.declared.command_arguments.Format.{Format}
use Rattle.feats_answers.specs.AnswerTexts.{AnswerText}
use Rattle.feats_answers.specs.Gathered.{gathered}
use Rattle.feats_answers.specs.Parts.{ArePartsOf, is_anywhere, label_of_part}

-- The part as a label of its package.
abbrev pub off_part : NamedText → PartText
off_part part = record { number = part.owner; label = label_of_part part.part }

-- Those of the parts that are built on no side. `built side p label` is whether part `label` of package `p` is built on `side`.
abbrev pub parts_off : (Side → ℕ → LabelName → Bool) → List NamedText → List PartText
parts_off built parts = map off_part (filter (λ part. not (is_anywhere built part)) parts)

-- Those of the parts that aren't built in the plan.
abbrev pub off_parts : Bool → PlanText → List NamedText → List PartText
off_parts split plan parts = parts_off (is_part_built split plan) parts

abbrev pub on_end : Text
on_end = codes " is on in this build: ask why\n"

-- The answer to `why-not` with this word: which wider selections turn on each part that it names and that isn't built. If all are built, it
-- says no. Exactly the specs hold on every platform.
pub record IsWhyNotAnswer (form : Format) (w : WorkspaceText) (specs : List DeclaredText) (words : WordsText) (plan : PlanText) (word : Text) (answer : AnswerText) : Type 0 where
  pub every : Text → Bool
  pub is_every : (text : Text) → every text ≡ is_declared specs text
  pub parts : List NamedText
  pub are_parts : ArePartsOf w words word parts
  pub shown : List Text
  pub are_shown : AllZip (IsWhyNotText form (is_single (off_parts words.selection.split plan parts)) w words every) (off_parts words.selection.split plan parts) shown
  pub is_answer : answer ≡ gathered form w.packages word parts on_end shown
