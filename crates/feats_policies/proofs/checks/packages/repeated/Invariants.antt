use Rattle.std.proofs.Common.{◌≡◌, ◌++◌, drop, filter}
use Rattle.cargo_workspaces.specs.WorkspaceView.{workspace_text}
use Rattle.feats_policies.specs.checks.Found.{has_namesake}
use Rattle.feats_policies.proofs.checks.packages.repeated.Given as goal

abbrev pub invariant-loop-number : goal.invariant-loop-number
invariant-loop-number l =
    let keeps = has_namesake (workspace_text l.workspace).packages l.numbers in
    filter keeps l.numbers ≡ l.list.items ++ filter keeps (drop l.number-index l.numbers)
