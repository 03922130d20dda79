use Rattle.std.proofs.Common.{◌∙◌, ap}
use Rattle.cargo_workspaces.specs.WorkspaceView.{workspace_text}
use Rattle.cargo_manifests.specs.inherited.InheritanceView.{inheritance_text}
use Rattle.cargo_manifests.specs.EditViews.{edit_text}
use Rattle.cargo_manifests.specs.Edits.{edited_packages}
use Rattle.cargo_manifests.proofs.EditLemmas.{made}
use Rattle.cargo_manifests.proofs.edited_workspace.edited.Goals as goal

pub new-requires : goal.new-requires
new-requires c =
    let i = inheritance_text c.args.inheritance.now in
    let e = edit_text c.args.edit.now in
    made (workspace_text c.args.workspace.now) i e _ _ _ _
    (c.in_ok-packages.ensures ∙ ap (edited_packages i e) c.packages.ensures)
    (c.in_ok-members.ensures.items ∙ c.members.ensures)
    (c.in_ok-default_members.ensures.items ∙ c.default_members.ensures)
    c.root.ensures
    c.facts.ensures
