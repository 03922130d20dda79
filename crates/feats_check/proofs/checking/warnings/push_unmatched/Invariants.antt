use Rattle.std.proofs.Common.{◌≡◌, ◌++◌, map, drop}
use Rattle.feats_policies.specs.Views.{rule_text}
use Rattle.feats_check.specs.checking.WarningViews.{string_texts}
use Rattle.feats_check.specs.texts.Messages.{unmatched_message}
use Rattle.feats_check.proofs.checking.warnings.push_unmatched.Given as goal

abbrev pub invariant-loop-rule : goal.invariant-loop-rule
invariant-loop-rule l =
    let messages = map (unmatched_message l.file) in
    string_texts l.initial.lines.items ++ messages (map rule_text l.rules) ≡ string_texts l.lines.items ++ messages (map rule_text (drop l.rule-index l.rules))
