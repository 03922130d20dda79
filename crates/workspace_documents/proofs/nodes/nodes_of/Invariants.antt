use Rattle.std.proofs.Common.{◌≡◌, [], drop}
use Rattle.json.specs.Value.{items_view}
use Rattle.cargo_json.specs.declared.fault.Place.TheVariants as place
use Rattle.workspace_documents.specs.Lists.{each_by_id}
use Rattle.workspace_documents.specs.Nodes.{node_in}
use Rattle.workspace_documents.specs.Views.{node_view, package_view, entries_view}
use Rattle.workspace_documents.proofs.nodes.nodes_of.Given as goal

abbrev pub invariant-loop-node : goal.invariant-loop-node
invariant-loop-node l =
    let packages = entries_view package_view l.packages.entries in
    each_by_id (node_in packages) place.Node 0 [] (items_view l.objects.items) ≡ each_by_id (node_in packages) place.Node l.node (entries_view node_view l.nodes.entries) (items_view (drop l.node l.object-items))
