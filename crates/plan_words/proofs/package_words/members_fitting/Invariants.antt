use Rattle.std.proofs.Common.{◌≡◌, ◌++◌, drop}
use Rattle.std.specs.List.{filter}
use Rattle.cargo_workspaces.specs.WorkspaceView.{workspace_text}
use Rattle.plan_words.specs.PackageWords as spec
use Rattle.plan_words.proofs.package_words.members_fitting.Given as goal

abbrev pub invariant-loop-member : goal.invariant-loop-member
invariant-loop-member l =
    let fitting = filter (spec.has_fitting_name (workspace_text l.workspace) l.pattern) in
    spec.members_fitting (workspace_text l.workspace) l.pattern ≡ l.fitting.items ++ fitting (drop l.member-index (workspace_text l.workspace).members)
