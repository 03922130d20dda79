use Rattle.std.proofs.Common.{◌≡◌, ◌∙◌, ap, List, ◌++◌, map}
use Rattle.cargo_workspaces.specs.WorkspaceView.{workspace_text}
use Rattle.cargo_workspaces.specs.Workspaces.{PackageText}
use Rattle.json.specs.Written.{Written}
use Rattle.feats_lines.proofs.Tokens.{on_ok}
use Rattle.feats_lines.specs.parts.Members.{Appends}
use Rattle.plan_whys.specs.StepViews.{why_text}
use Rattle.plan_whys.specs.Steps.{WhyText}
use Rattle.feats_why.specs.Objects as why
use Rattle.feats_why.specs.Settings.{SettingsText}
use Rattle.feats_check.proofs.checking.objects.write_objects.Goals as goal

-- the objects of these steps
objects_of : (a b : Written) (packages : List PackageText) (s t : SettingsText) (ws : List WhyText) → s ≡ t → why.Appends a b (why.step_objects packages s ws) → Appends a b (why.step_objects packages t ws)
objects_of a b packages s t ws e h = record { before = h.before; tokens = h.tokens ∙ ap (λ z. a.tokens ++ why.step_objects packages z ws) e }

pub returns : goal.returns
returns c = on_ok c.write_steps.result c.write_steps.ensures (λ written.
    objects_of _ _ (workspace_text c.args.workspace.now).packages _ _ (map why_text c.args.steps.now) c.settings_of.ensures written)
