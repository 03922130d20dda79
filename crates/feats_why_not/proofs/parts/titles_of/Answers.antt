use mathlib.Core.List.{map-map}
use Rattle.std.proofs.Common.{◌∙◌, ap, false, map}
use Rattle.std.proofs.lemmas.Result.{IfOk-weaker}
use Rattle.cargo_workspaces.specs.WorkspaceView.{workspace_text}
use Rattle.plan_rows.specs.declared.side.Side.TheVariants.{Target}
use Rattle.plan_whys.specs.StepViews.{spot_text}
use Rattle.feats_why.specs.Labels.{spot_label}
use Rattle.feats_why_not.specs.PartView.{part_text}
use Rattle.feats_why_not.specs.Parts.{spot_on}
use Rattle.feats_why_not.proofs.parts.titles_of.Goals as goal

pub returns : goal.returns
returns c =
    let label = spot_label (workspace_text c.args.workspace.now).packages false in
    let spots = ap (map spot_text) c.deref.ensures.value ∙ c.in_ok-spots.ensures in
    IfOk-weaker c.spot_labels.result _ _ (λ titles h. h ∙ ap (map label) spots ∙ map-map label (spot_on Target) (map part_text c.args.parts.now)) c.spot_labels.ensures
