use Rattle.std.proofs.Common.{◌≡◌, drop}
use Rattle.std.specs.List.{list_any}
use Rattle.cargo_workspaces.specs.WorkspaceView.{workspace_text}
use Rattle.plan_words.specs.ItemChecks as spec
use Rattle.plan_words.proofs.item_checks.is_item_of_some.Given as goal

abbrev pub invariant-loop-member : goal.invariant-loop-member
invariant-loop-member l =
    list_any (spec.is_item_of (workspace_text l.workspace) l.word) l.chosen ≡ list_any (spec.is_item_of (workspace_text l.workspace) l.word) (drop l.member-index l.chosen)
