use Rattle.std.proofs.Common.{◌∙◌, ap, map, List}
use Rattle.std.proofs.lemmas.Result.{IfOk-weaker}
use Rattle.cargo_plans.specs.built_parts.BuiltViews.{is_built_in, script_in}
use Rattle.cargo_plans.specs.built_parts.Scripts.{lacking_script}
use Rattle.cargo_plans.specs.WordsView.{words_text}
use Rattle.cargo_workspaces.specs.WorkspaceView.{workspace_text}
use Rattle.plan_rows.specs.platforms.HeldSpecs.{holds_on}
use Rattle.plan_whys.specs.StepViews.{spot_text}
use Rattle.feats_why.specs.Unbuilt.{UnbuiltText, unbuilt_lines, unbuilt_text}
use Rattle.feats_answers.proofs.Built.{same_scripts}
use Rattle.feats_answers.proofs.built_spots.lines_of.Goals as goal

pub returns : goal.returns
returns c =
    let packages = (workspace_text c.args.workspace.now).packages in
    let words = words_text holds_on c.args.words.now in
    IfOk-weaker c.unbuilt_lines.result _ _ (λ text is.
    is ∙ ap (λ (us : List UnbuiltText). unbuilt_lines packages words.selection.split us)
    (ap (map unbuilt_text) c.deref.ensures.value ∙ c.in_ok-list.ensures
    ∙ same_scripts (script_in c.in_ok-scripts.scripts) (lacking_script (is_built_in c.args.parts.now) words.host packages) c.in_ok-scripts.ensures (map spot_text c.args.unbuilt.now)))
    c.unbuilt_lines.ensures
