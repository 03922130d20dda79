-- What is off with all widenings of a command line together.
use Rattle.std.specs.Prelude.{ℕ, Bool, IsTrue}
use Rattle.feature_labels.specs.Names.{LabelName}
use Rattle.cargo_workspaces.specs.Workspaces.{IsWorkspace, Text, WorkspaceText}
use Rattle.plan_rows.specs.platforms.DeclaredSpecs.{declared_specs}
use Rattle.plan_rows.specs.platforms.HeldSpecs.{is_declared}
use Rattle.cargo_plans.specs.plan_steps.Plans.{PlanText}
use Rattle.cargo_plans.specs.Plans.{IsPlanOf, WordsText}
use Rattle.laws.specs.plans.Widening.{IsCovered, IsOffInPlan}
use Rattle.plan_names.specs.wider.widenings.Findings.{IsOffEverywhere}

-- Each platform spec that a declaration of the workspace names holds.
abbrev pub HoldsEach : WorkspaceText → (Text → Bool) → Type 0
HoldsEach w every = (text : Text) → IsTrue (is_declared (declared_specs w.packages) text) → IsTrue (every text)

-- NO CHOICE of members, features of members, tests and platforms turns on what is off with all widenings of the words together: it is off in
-- each plan by words that these cover.
abbrev pub NoChoiceTurnsOn : Type 0
NoChoiceTurnsOn = (w : WorkspaceText) (words : WordsText) (every : Text → Bool) → IsWorkspace w → HoldsEach w every
    → (k : ℕ) (label : LabelName) → IsOffEverywhere w words every k label
    → (others : WordsText) (plan : PlanText) → IsCovered w others words → IsPlanOf w others plan → IsOffInPlan plan k label
