use Rattle.std.proofs.Common.{◌∙◌, ℕ, List, ap, map, sym}
use Rattle.std.specs.Global.{Vec}
use Rattle.cargo_plans.specs.built_parts.BuiltViews.{is_built_in, state_in}
use Rattle.cargo_plans.specs.WordsView.{words_text}
use Rattle.cargo_workspaces.specs.WorkspaceView.{workspace_text}
use Rattle.feats_words.specs.declared.command_arguments.Format.{Format}
use Rattle.plan_rows.specs.platforms.HeldSpecs.{holds_on}
use Rattle.plan_whys.specs.Steps.{SpotText}
use Rattle.plan_whys.specs.StepViews.{spot_text}
use Rattle.plan_whys.specs.declared.steps.Spot.{Spot}
use Rattle.feats_answers.specs.BuiltSpots as spec
use Rattle.feats_answers.proofs.built_spots.unbuilt_text_of.Goals as goal

pub returns-in_ok-lines_of-in-Text : goal.returns-in_ok-lines_of-in-Text
returns-in_ok-lines_of-in-Text c =
    let packages = (workspace_text c.args.workspace.now).packages in
    let words = words_text holds_on c.args.words.now in
    let state = state_in c.args.parts.now in
    let built = is_built_in c.args.parts.now in
    ap (λ (v : Vec ℕ). v.items) c.into_bytes.ensures.value ∙ c.in_ok-lines_of-in-Text.ensures
    ∙ ap (λ (ss : List Spot). spec.lines_of packages words built (map spot_text ss)) c.deref.ensures.value
    ∙ ap (λ (ss : List SpotText). spec.lines_of packages words built ss) c.in_ok-unbuilt-in-Text.ensures
    ∙ ap (λ (f : Format). spec.unbuilt_text_of f packages words state built (map spot_text c.args.spots.now)) (sym c.in-Text.is)
