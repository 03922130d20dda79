use Rattle.std.proofs.Common.{◌≡◌, ◌++◌, drop, flat_map, map}
use Rattle.cargo_plans.specs.WordsView.{words_text}
use Rattle.cargo_workspaces.specs.WorkspaceView.{workspace_text}
use Rattle.plan_rows.specs.platforms.HeldSpecs.{holds_on}
use Rattle.plan_whys.specs.StepViews.{found_text}
use Rattle.feats_check.specs.checking.Whys.{found_array}
use Rattle.feats_check.proofs.checking.objects.write_founds.Given as goal

abbrev pub invariant-loop-found : goal.invariant-loop-found
invariant-loop-found l =
    let arrays = flat_map (found_array (workspace_text l.workspace).packages (words_text holds_on l.words)) in
    (l.writer.before ≡ l.initial.writer.before)
    × (l.initial.writer.tokens ++ arrays (map found_text l.founds) ≡ l.writer.tokens ++ arrays (map found_text (drop l.found-index l.founds)))
