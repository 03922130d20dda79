use Rattle.std.proofs.Common.{◌≡◌, ◌++◌, map, drop}
use Rattle.feats_policies.specs.Views.{rule_text}
use Rattle.feats_policies.specs.checks.Checks.{broken_rules, refusals}
use Rattle.feats_policies.specs.checks.Views.{build_text, verdict_text}
use Rattle.feats_policies.proofs.checks.checks.check.Given as goal

-- Each rule so far could be checked.
abbrev pub invariant-loop-rule : goal.invariant-loop-rule
invariant-loop-rule l =
    let build = build_text l.build in
    record {
      broken : broken_rules build (map rule_text l.rules) ≡ map verdict_text l.verdicts.items ++ broken_rules build (map rule_text (drop l.rule-index l.rules));
      refused : refusals build (map rule_text l.rules) ≡ refusals build (map rule_text (drop l.rule-index l.rules));
    }
