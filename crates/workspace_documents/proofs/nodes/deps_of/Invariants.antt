use Rattle.std.proofs.Common.{◌≡◌, map, drop}
use Rattle.json.specs.Value.{items_view}
use Rattle.workspace_documents.specs.Lists.{each}
use Rattle.workspace_documents.specs.Nodes.{dep_in}
use Rattle.workspace_documents.specs.Views.{dep_view, package_view, entries_view}
use Rattle.workspace_documents.proofs.Lists.{prepend}
use Rattle.workspace_documents.proofs.nodes.deps_of.Given as goal

abbrev pub invariant-loop-dep : goal.invariant-loop-dep
invariant-loop-dep l =
    let read = dep_in (entries_view package_view l.packages.entries) l.node in
    each read 0 (items_view l.objects.items) ≡ prepend (map dep_view l.deps.items) (each read l.dep (items_view (drop l.dep l.object-items)))
