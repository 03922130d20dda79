-- Whether a label is on by some words.
use Rattle.std.specs.Prelude.{ℕ, Bool, IsFalse, ◌||◌}
use Rattle.feature_labels.specs.Names.{LabelName}
use Rattle.cargo_workspaces.specs.Workspaces.{Text, WorkspaceText}
use Rattle.plan_rows.specs.declared.side.Side.TheVariants.{Host, Target}
use Rattle.cargo_plans.specs.plan_starts.PackageVisits.{PairVisit, is_on}
use Rattle.cargo_plans.specs.plan_steps.Plans.{PlanText}
use Rattle.cargo_plans.specs.Plans.{IsPlanOf, WordsText}
use Rattle.plan_names.specs.wider.widenings.Widenings.{widened}
use Rattle.plan_names.specs.declared.wider.widenings.sides.Sides.{Sides}
use Rattle.plan_names.specs.declared.wider.widenings.widening.Widening.TheVariants as widening

-- On which sides a label of package `p` is on.
abbrev pub sides_of : PairVisit → ℕ → LabelName → Sides
sides_of on p label = record { target = is_on on Target p label; host = is_on on Host p label }

-- Whether there is one.
abbrev pub are_some : Sides → Bool
are_some sides = sides.target || sides.host

-- The words have a plan, in which the label of package `p` is off on both sides.
pub record IsOff (w : WorkspaceText) (words : WordsText) (p : ℕ) (label : LabelName) : Type 0 where
  pub plan : PlanText
  pub is_plan : IsPlanOf w words plan
  pub is_off : IsFalse (are_some (sides_of plan.on p label))

-- OFF EVERYWHERE: the label is off in a plan of the words with all widenings together.
abbrev pub IsOffEverywhere : WorkspaceText → WordsText → (Text → Bool) → ℕ → LabelName → Type 0
IsOffEverywhere w words every p label = IsOff w (widened every widening.Together words) p label
