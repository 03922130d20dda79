use Rattle.std.proofs.Common.{◌≡◌, drop}
use Rattle.cargo_workspaces.specs.WorkspaceView.{workspace_text}
use Rattle.plan_starts.specs.Starts.{first_without_tests}
use Rattle.plan_starts.proofs.tests_of.first_without_tests.Given as goal

abbrev pub invariant-loop-ix : goal.invariant-loop-ix
invariant-loop-ix l = first_without_tests (workspace_text l.workspace) l.selected ≡ first_without_tests (workspace_text l.workspace) (drop l.ix-index l.selected)
