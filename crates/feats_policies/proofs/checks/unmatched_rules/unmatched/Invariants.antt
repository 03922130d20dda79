use Rattle.std.proofs.Common.{◌≡◌, ◌++◌, map, drop}
use Rattle.cargo_workspaces.specs.WorkspaceView.{workspace_text}
use Rattle.feats_policies.specs.Views.{rule_text}
use Rattle.feats_policies.specs.checks.Checks.{unmatched}
use Rattle.feats_policies.proofs.checks.unmatched_rules.unmatched.Given as goal

abbrev pub invariant-loop-rule : goal.invariant-loop-rule
invariant-loop-rule l =
    let all = unmatched (workspace_text l.workspace).packages l.selected in
    all (map rule_text l.rules) ≡ map rule_text l.list.items ++ all (map rule_text (drop l.rule-index l.rules))
