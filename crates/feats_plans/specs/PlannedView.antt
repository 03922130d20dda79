-- A `Planned` as a `PlannedText`.
use Rattle.cargo_workspaces.specs.WorkspaceView.{workspace_text}
use Rattle.cargo_plans.specs.WordsView.{words_text}
use Rattle.plan_rows.specs.platforms.HeldSpecs.{holds_on}
use Rattle.cargo_plans.specs.plan_steps.PlanViews.{plan_text}
use Rattle.feats_plans.specs.Inputs.{inputs_text}
use Rattle.feats_plans.specs.Planned.{PlannedText}
use Rattle.feats_plans.specs.declared.planned.Planned.{Planned}

abbrev pub planned_text : Planned → PlannedText
planned_text p = record {
  inputs = inputs_text p.arguments.now p.files.now;
  workspace = workspace_text p.workspace.now;
  words = words_text holds_on p.words.now;
  plan = plan_text p.plan.now;
}
