use Rattle.std.proofs.Common.{◌≡◌, ◌++◌, filter, drop}
use Rattle.cargo_workspaces.specs.Views.{texts}
use Rattle.cargo_manifests.specs.Edits.{is_other}
use Rattle.cargo_manifests.proofs.edited_workspace.others.Given as goal

abbrev pub invariant-loop-feature : goal.invariant-loop-feature
invariant-loop-feature l =
    filter (is_other l.name) (texts l.features) ≡ texts l.left.items ++ filter (is_other l.name) (texts (drop l.feature-index l.features))
