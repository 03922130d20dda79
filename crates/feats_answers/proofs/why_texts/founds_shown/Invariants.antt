use Rattle.std.proofs.Common.{map, take}
use Rattle.cargo_plans.specs.WordsView.{words_text}
use Rattle.cargo_workspaces.specs.WorkspaceView.{workspace_text}
use Rattle.plan_rows.specs.platforms.HeldSpecs.{holds_on}
use Rattle.cargo_plans.specs.plan_steps.PlanViews.{plan_text}
use Rattle.plan_whys.specs.StepViews.{found_text}
use Rattle.feats_answers.specs.AnswerViews.{texts_of}
use Rattle.feats_answers.specs.Gathered.{AreShown}
use Rattle.feats_answers.specs.WhyTexts.{IsFoundShown}
use Rattle.feats_answers.proofs.why_texts.founds_shown.Given as goal

abbrev pub invariant-loop-found : goal.invariant-loop-found
invariant-loop-found l =
    AreShown (IsFoundShown l.format l.all (workspace_text l.workspace).packages (words_text holds_on l.words) (plan_text l.plan)) (map found_text (take l.found-index l.founds)) (texts_of l.texts.items)
