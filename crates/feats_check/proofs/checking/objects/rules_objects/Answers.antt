use Rattle.std.proofs.Common.{◌≡◌, [], drop, length, rules}
use Rattle.cargo_plans.specs.WordsView.{words_text}
use Rattle.cargo_workspaces.specs.WorkspaceView.{workspace_text}
use Rattle.plan_rows.specs.platforms.HeldSpecs.{holds_on}
use Rattle.plan_whys.specs.StepViews.{found_text}
use Rattle.feats_words.specs.declared.command_arguments.Format.TheVariants as format
use Rattle.feats_check.specs.checking.Whys.{text_by}
use Rattle.feats_check.proofs.RuleTexts.{texts_more}
use Rattle.feats_check.proofs.checking.objects.rules_objects.Goals as goal

pub loop-verdict-preserved : goal.loop-verdict-preserved
loop-verdict-preserved c =
    let founds = c.args.founds.now in
    let count : c.len.result ≡ length c.verdict-item.result.spots.items = search rules in
    texts_more (text_by format.Json [] c.args.planned.judged (workspace_text c.args.workspace.now).packages (words_text holds_on c.args.planned.words.now)) found_text c.args.verdicts.now c.loop-verdict.verdict-index
    c.verdict-item.result c.len.result (drop c.loop-verdict.from founds) c.part_at-after.result.0.now (drop c.part_at-after.result.1 founds) _ c.loop-verdict.text.items c.push_rule.new.text.items c.loop-verdict-test.true c.verdict-item.is
    count c.part_at-after.ensures.part c.part_at-after.ensures.after c.loop-verdict.invariant c.in_ok-push_rule.ensures
