use Rattle.std.proofs.Common.{◌≡◌, ◌++◌, ℕ, filter, drop, nat_eq}
use Rattle.std.specs.List.{list_any}
use Rattle.cargo_workspaces.specs.WorkspaceView.{workspace_text}
use Rattle.feats_slim.specs.edits.Slims.{selected_members}
use Rattle.feats_slim.proofs.edits.slims.selected_members.Given as goal

abbrev pub invariant-loop-member : goal.invariant-loop-member
invariant-loop-member l =
    selected_members (workspace_text l.workspace) l.selected
    ≡ l.members.items ++ filter (λ (m : ℕ). list_any (nat_eq m) l.selected) (drop l.member-index (workspace_text l.workspace).members)
