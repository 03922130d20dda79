use Rattle.std.proofs.Common.{map, refl}
use Rattle.cargo_workspaces.specs.WorkspaceView.{workspace_text}
use Rattle.plan_whys.specs.StepViews.{why_text}
use Rattle.feats_why_not.proofs.Tokens.{objects_of, on_ok}
use Rattle.feats_why_not.proofs.objects.write_objects.Goals as goal

pub returns : goal.returns
returns c =
    let packages = (workspace_text c.args.workspace.now).packages in
    let steps = map why_text c.args.steps.now in
    on_ok c.write_steps.result c.write_steps.ensures (λ written. objects_of _ _ packages _ _ steps steps c.settings_of.ensures refl written)
