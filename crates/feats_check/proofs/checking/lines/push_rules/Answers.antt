use Rattle.std.proofs.Common.{◌≡◌, List, drop, length, rules}
use Rattle.std.specs.String.{string_bytes}
use Rattle.cargo_workspaces.specs.Workspaces.{Text}
use Rattle.feats_policies.specs.Rules.{RuleText}
use Rattle.feats_check.specs.checking.inner.RuleTexts.{gapped}
use Rattle.feats_check.specs.texts.Lines.{verdict_lines}
use Rattle.feats_check.proofs.RuleTexts.{texts_more}
use Rattle.feats_check.proofs.checking.lines.push_rules.Goals as goal

pub loop-verdict-preserved : goal.loop-verdict-preserved
loop-verdict-preserved c =
    let whys = c.args.whys.now in
    let count : c.len.result ≡ length c.verdict-item.result.spots.items = search rules in
    texts_more (λ (r : RuleText) (own : List Text). verdict_lines c.args.file.now c.args.judged r (gapped own)) string_bytes c.args.verdicts.now c.loop-verdict.verdict-index c.verdict-item.result c.len.result
    (drop c.loop-verdict.from whys) c.part_at-after.result.0.now (drop c.part_at-after.result.1 whys) _ c.loop-verdict.text.items c.push_rule.new.text.items c.loop-verdict-test.true c.verdict-item.is count
    c.part_at-after.ensures.part c.part_at-after.ensures.after c.loop-verdict.invariant c.in_ok-push_rule.ensures
