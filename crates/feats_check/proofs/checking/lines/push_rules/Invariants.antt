use Rattle.std.proofs.Common.{◌≡◌, ◌++◌, List, drop, map}
use Rattle.std.specs.String.{string_bytes}
use Rattle.cargo_workspaces.specs.Workspaces.{Text}
use Rattle.feats_policies.specs.Rules.{RuleText}
use Rattle.feats_policies.specs.checks.Views.{verdict_text}
use Rattle.feats_check.specs.checking.inner.RuleTexts.{gapped, texts_by}
use Rattle.feats_check.specs.texts.Lines.{verdict_lines}
use Rattle.feats_check.proofs.checking.lines.push_rules.Given as goal

abbrev pub invariant-loop-verdict : goal.invariant-loop-verdict
invariant-loop-verdict l =
    let text = λ (r : RuleText) (own : List Text). verdict_lines l.file l.judged r (gapped own) in
    l.initial.text.items ++ texts_by text (map verdict_text l.verdicts) (map string_bytes l.whys) ≡ l.text.items ++ texts_by text (map verdict_text (drop l.verdict-index l.verdicts)) (map string_bytes (drop l.from l.whys))
