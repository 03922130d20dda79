use Rattle.std.proofs.Common.{◌∙◌, List, ap, map}
use Rattle.cargo_workspaces.specs.WorkspaceView.{workspace_text}
use Rattle.cargo_workspaces.specs.Workspaces.{PackageText}
use Rattle.feats_duplicates.specs.Views.{alone_text}
use Rattle.feats_duplicates.specs.Joined.{joined_packages, joins_of}
use Rattle.feats_duplicates.specs.inner.JoinViews.{join_text}
use Rattle.feats_duplicates.proofs.JoinedLemmas.{made}
use Rattle.feats_duplicates.proofs.joined.joined_workspace.Goals as goal

pub new-requires : goal.new-requires
new-requires c =
    let w = workspace_text c.args.workspace.now in
    let alone = map alone_text c.args.alone.now in
    let joins = map join_text c.deref.result.now in
    made w alone joins _ _ _ _
    (ap (map join_text) c.deref.ensures.value ∙ c.in_ok-joins.ensures ∙ ap (λ (ps : List PackageText). joins_of ps alone) c.packages.ensures)
    (c.in_ok-packages.ensures ∙ ap (joined_packages joins) c.packages-2.ensures)
    (c.in_ok-members.ensures.items ∙ c.members.ensures)
    (c.in_ok-default_members.ensures.items ∙ c.default_members.ensures)
    c.root.ensures
    c.facts.ensures
