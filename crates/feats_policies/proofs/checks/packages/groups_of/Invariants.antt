use Rattle.std.proofs.Common.{◌≡◌, ◌++◌, drop}
use Rattle.cargo_workspaces.specs.WorkspaceView.{workspace_text}
use Rattle.cargo_workspaces.specs.Workspaces.{Text}
use Rattle.feats_policies.specs.checks.Found.{with_name}
use Rattle.feats_policies.specs.checks.inner.Groups.{named}
use Rattle.feats_policies.proofs.checks.packages.groups_of.Given as goal

abbrev pub invariant-loop-number : goal.invariant-loop-number
invariant-loop-number l =
    (q : Text) → with_name (workspace_text l.workspace).packages l.numbers q ≡ named l.names q ++ with_name (workspace_text l.workspace).packages (drop l.number-index l.numbers) q
