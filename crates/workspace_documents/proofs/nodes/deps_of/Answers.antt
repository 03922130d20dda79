use Rattle.std.proofs.Common.{◌∙◌, ap, map}
use Rattle.std.proofs.lemmas.List.{map-append}
use Rattle.workspace_documents.specs.Nodes.{dep_in}
use Rattle.workspace_documents.specs.Views.{dep_view, package_view, entries_view}
use Rattle.workspace_documents.proofs.Lists.{each_more}
use Rattle.workspace_documents.proofs.nodes.deps_of.Goals as goal

pub loop-dep-preserved : goal.loop-dep-preserved
loop-dep-preserved c =
    let pushed = ap (map dep_view) c.in_ok-push.ensures.items ∙ map-append dep_view c.loop-dep.deps.items _ in
    rw pushed (each_more (dep_in (entries_view package_view c.args.packages.now.entries) c.args.node) _ c.loop-dep.dep c.object-item.result _ (dep_view c.in_ok-dep_of.field-0) _ c.loop-dep-test.true c.object-item.is c.in_ok-dep_of.ensures c.loop-dep.invariant)
