use Rattle.std.proofs.Common.{◌∙◌, sym, ap}
use Rattle.cargo_json.specs.declared.fault.Place.TheVariants as place
use Rattle.workspace_documents.specs.Lists.{each_by_id}
use Rattle.workspace_documents.specs.Nodes.{node_in}
use Rattle.workspace_documents.specs.Views.{node_view, package_view, entries_view}
use Rattle.workspace_documents.proofs.Entries.{item_at, next_by_id, again_by_id}
use Rattle.workspace_documents.proofs.nodes.nodes_of.Goals as goal

pub returns-then-is_some : goal.returns-then-is_some
returns-then-is_some c =
    let read = node_in (entries_view package_view c.args.packages.now.entries) in
    let so = c.loop-node.invariant ∙ ap (each_by_id read place.Node c.loop-node.node (entries_view node_view c.loop-node.nodes.entries)) (item_at _ c.loop-node.node c.object-item.result c.loop-node-test.true c.object-item.is) in
    again_by_id node_view read place.Node c.loop-node.node _ _ c.in_ok-id.id c.in_ok-id.said _ _ _ c.in_ok-id.ensures c.in_ok-insert.ensures.old so (sym c.is_some.ensures ∙ c.if-is_some.true)

pub loop-node-preserved : goal.loop-node-preserved
loop-node-preserved c =
    let read = node_in (entries_view package_view c.args.packages.now.entries) in
    let so = c.loop-node.invariant ∙ ap (each_by_id read place.Node c.loop-node.node (entries_view node_view c.loop-node.nodes.entries)) (item_at _ c.loop-node.node c.object-item.result c.loop-node-test.true c.object-item.is) in
    next_by_id node_view read place.Node c.loop-node.node _ _ c.in_ok-id.id c.in_ok-id.said _ _ _ c.in_ok-id.ensures c.in_ok-insert.ensures.old so _ (sym c.is_some.ensures ∙ c.if-is_some.false) c.in_ok-insert.ensures.entries
