use Rattle.std.proofs.Common.{◌≡◌, map, drop}
use Rattle.std.specs.List.{list_any}
use Rattle.feats_policies.specs.Rules.{RuleText}
use Rattle.feats_policies.specs.Views.{rule_text}
use Rattle.feats_check.specs.checking.Warnings.{is_for_build}
use Rattle.feats_check.proofs.checking.warnings.is_any_for_build.Given as goal

abbrev pub invariant-loop-rule : goal.invariant-loop-rule
invariant-loop-rule l =
    let is_any = list_any (λ (r : RuleText). is_for_build r.kind) in
    is_any (map rule_text l.rules) ≡ is_any (map rule_text (drop l.rule-index l.rules))
