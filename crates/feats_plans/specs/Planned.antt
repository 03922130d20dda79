-- A plan, with the inputs, the workspace and the words that it is made from.
use Rattle.cargo_workspaces.specs.Workspaces.{WorkspaceText}
use Rattle.cargo_plans.specs.Plans.{WordsText}
use Rattle.cargo_plans.specs.plan_steps.Plans.{PlanText}
use Rattle.feats_plans.specs.Inputs.{InputsText}

pub record PlannedText : Type 0 where
  pub inputs : InputsText
  pub workspace : WorkspaceText
  pub words : WordsText
  pub plan : PlanText
