use Rattle.std.proofs.Common.{◌≡◌, ◌++◌, [], drop, map}
use Rattle.cargo_plans.specs.WordsView.{words_text}
use Rattle.cargo_workspaces.specs.WorkspaceView.{workspace_text}
use Rattle.plan_rows.specs.platforms.HeldSpecs.{holds_on}
use Rattle.plan_whys.specs.StepViews.{found_text}
use Rattle.feats_policies.specs.checks.Views.{verdict_text}
use Rattle.feats_words.specs.declared.command_arguments.Format.TheVariants as format
use Rattle.feats_check.specs.checking.Whys.{text_by}
use Rattle.feats_check.specs.checking.inner.RuleTexts.{texts_by}
use Rattle.feats_check.proofs.checking.objects.rules_objects.Given as goal

abbrev pub invariant-loop-verdict : goal.invariant-loop-verdict
invariant-loop-verdict l =
    let text = text_by format.Json [] l.planned.judged (workspace_text l.workspace).packages (words_text holds_on l.planned.words.now) in
    texts_by text (map verdict_text l.verdicts) (map found_text l.founds) ≡ l.text.items ++ texts_by text (map verdict_text (drop l.verdict-index l.verdicts)) (map found_text (drop l.from l.founds))
