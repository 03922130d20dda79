use Rattle.std.proofs.Common.{◌≡◌, drop}
use Rattle.std.specs.List.{list_any}
use Rattle.cargo_workspaces.specs.WorkspaceView.{workspace_text}
use Rattle.feats_plans.specs.tool.Exclusions.{is_excluded}
use Rattle.feats_plans.proofs.tool.exclusions.any_excluded.Given as goal

abbrev pub invariant-loop-member : goal.invariant-loop-member
invariant-loop-member l =
    let test = is_excluded (workspace_text l.workspace) l.named l.word in
    list_any test (workspace_text l.workspace).members ≡ list_any test (drop l.member-index l.member-items)
