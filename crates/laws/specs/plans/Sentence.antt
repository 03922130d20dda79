-- The sentence that ends an answer of `why-not`.
use Rattle.std.specs.Prelude.{Bool}
use Rattle.cargo_workspaces.specs.Workspaces.{IsWorkspace, Text, WorkspaceText}
use Rattle.cargo_plans.specs.plan_steps.Plans.{PlanText}
use Rattle.cargo_plans.specs.Plans.{IsPlanOf, WordsText}
use Rattle.feats_words.specs.declared.command_arguments.Format.TheVariants as format
use Rattle.laws.specs.plans.NoChoice.{HoldsEach}
use Rattle.laws.specs.plans.Widening.{IsCovered, IsOffInPlan}
use Rattle.feats_why_not.specs.Parts.{PartText}
use Rattle.feats_why_not.specs.Texts.{IsWhyNotText}
use Rattle.plan_names.specs.wider.texts.Laws.{EndsWithLine}
use Rattle.plan_names.specs.wider.texts.Lines.{sentence}

-- THE SENTENCE IS TRUE: if it is the last line of a text of `why-not`, the text's part is off in each plan by words that those of the command
-- line cover.
abbrev pub SentenceIsTrue : Type 0
SentenceIsTrue = (alone : Bool) (w : WorkspaceText) (words : WordsText) (every : Text → Bool) (part : PartText) (text : Text) → IsWorkspace w → HoldsEach w every
    → IsWhyNotText format.Text alone w words every part text → EndsWithLine text sentence
    → (others : WordsText) (plan : PlanText) → IsCovered w others words → IsPlanOf w others plan → IsOffInPlan plan part.number part.label
