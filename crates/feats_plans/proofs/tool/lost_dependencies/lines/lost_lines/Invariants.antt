use Rattle.std.proofs.Common.{◌≡◌, ◌++◌, map, drop, flat_map}
use Rattle.cargo_workspaces.specs.WorkspaceView.{workspace_text}
use Rattle.feats_plans.specs.tool.lost_dependencies.Lost.{lost_lines, member_lines}
use Rattle.feats_plans.specs.tool.lost_dependencies.Strings.{string_texts}
use Rattle.feats_plans.proofs.tool.lost_dependencies.lines.lost_lines.Given as goal

abbrev pub invariant-loop-member : goal.invariant-loop-member
invariant-loop-member g l =
    let host = g.P.Platform.holds l.host in
    let targets = map g.P.Platform.holds l.targets in
    lost_lines host targets (workspace_text l.workspace)
    ≡ string_texts l.lines.items ++ flat_map (member_lines host targets (workspace_text l.workspace).packages) (drop l.member-index l.member-items)
