use Rattle.std.proofs.Common.{◌≡◌, map, drop}
use Rattle.workspace_documents.specs.Nodes.{known}
use Rattle.workspace_documents.specs.Views.{text_view, package_view, entries_view}
use Rattle.workspace_documents.proofs.nodes.check_members.Given as goal

abbrev pub invariant-loop-id : goal.invariant-loop-id
invariant-loop-id l =
    let packages = entries_view package_view l.packages.entries in
    known packages l.name (map text_view l.ids) ≡ known packages l.name (map text_view (drop l.id-index l.ids))
