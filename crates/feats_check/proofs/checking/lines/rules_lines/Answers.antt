use Rattle.std.proofs.Common.{◌∙◌, ap, map}
use Rattle.std.specs.String.{string_bytes}
use Rattle.cargo_plans.specs.WordsView.{words_text}
use Rattle.cargo_workspaces.specs.WorkspaceView.{workspace_text}
use Rattle.plan_rows.specs.platforms.HeldSpecs.{holds_on}
use Rattle.plan_whys.specs.StepViews.{found_text}
use Rattle.feats_policies.specs.checks.Views.{verdict_text}
use Rattle.feats_check.specs.checking.inner.RuleTexts.{gapped, texts_by}
use Rattle.feats_check.specs.texts.Lines.{verdict_lines}
use Rattle.feats_check.proofs.RuleTexts.{lines_texts, onto_none}
use Rattle.feats_check.proofs.checking.lines.rules_lines.Goals as goal

pub returns : goal.returns
returns c =
    let judged = c.args.planned.judged in
    let verdicts = map verdict_text c.args.verdicts.now in
    let lines = map string_bytes c.deref.result.now in
    onto_none c.new-text.result.items c.push_rules.new.text.items (texts_by (λ r own. verdict_lines c.args.file.now judged r (gapped own)) verdicts lines) c.new-text.ensures.items c.in_ok-push_rules.ensures
    ∙ lines_texts (workspace_text c.args.workspace.now).packages (words_text holds_on c.args.planned.words.now) c.args.file.now judged verdicts (map found_text c.args.founds.now) lines
    (ap (map string_bytes) c.deref.ensures.value ∙ c.in_ok-whys.ensures)
