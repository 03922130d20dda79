use Rattle.std.proofs.Common.{◌≡◌, true, map}
use Rattle.std.specs.List.{list_all}
use Rattle.cargo_workspaces.specs.WorkspaceView.{workspace_text}
use Rattle.plan_names.specs.Suggestions.{is_part}
use Rattle.plan_names.specs.inner.Nears.{near_text}
use Rattle.plan_names.proofs.nearest_parts.push_all_parts.Given as goal

abbrev pub invariant-loop-number : goal.invariant-loop-number
invariant-loop-number l =
    let packages = (workspace_text l.workspace).packages in
    list_all (is_part packages) (map near_text l.initial.near.items) ≡ true → list_all (is_part packages) (map near_text l.near.items) ≡ true
