use Rattle.std.proofs.Common.{◌≡◌, ◌++◌, map, drop}
use Rattle.cargo_workspaces.specs.Views.{texts}
use Rattle.cargo_workspaces.specs.WorkspaceView.{workspace_text}
use Rattle.feats_lines.specs.Views.{shown_text}
use Rattle.cargo_plans.specs.plan_units.UnitViews.{unit_text}
use Rattle.feats_answers.specs.PlanTexts as spec
use Rattle.feats_answers.proofs.plan_texts.all_shown.Given as goal

abbrev pub invariant-loop-unit : goal.invariant-loop-unit
invariant-loop-unit l =
    spec.all_shown (texts l.names) (workspace_text l.workspace).packages (map unit_text l.units)
    ≡ map shown_text l.shown.items ++ spec.all_shown (texts l.names) (workspace_text l.workspace).packages (map unit_text (drop l.unit-index l.units))
