use Rattle.std.proofs.Common.{◌≡◌, ◌++◌, ◌+◌, flat_map, map, drop}
use Rattle.std.specs.List.{enumerate_from}
use Rattle.feats_policies.specs.Policies.{problem_at, rule_at}
use Rattle.feats_policies.specs.Views.{rule_text, texts}
use Rattle.feats_policies.proofs.policy.rules_of.Given as goal

-- No line so far is malformed.
abbrev pub invariant-loop-ix : goal.invariant-loop-ix
invariant-loop-ix l = record {
  rules : flat_map rule_at (enumerate_from 1 (texts l.lines)) ≡ map rule_text l.rules.items ++ flat_map rule_at (enumerate_from (l.ix + 1) (texts (drop l.ix l.lines)));
  problems : flat_map problem_at (enumerate_from 1 (texts l.lines)) ≡ flat_map problem_at (enumerate_from (l.ix + 1) (texts (drop l.ix l.lines)));
}
