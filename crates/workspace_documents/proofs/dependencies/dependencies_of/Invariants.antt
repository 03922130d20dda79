use Rattle.std.proofs.Common.{◌≡◌, map, drop}
use Rattle.workspace_documents.specs.Dependencies.{led}
use Rattle.workspace_documents.specs.Views.{declaration_view, dep_view, dependency_view}
use Rattle.workspace_documents.proofs.Lists.{prepend}
use Rattle.workspace_documents.proofs.dependencies.dependencies_of.Given as goal

abbrev pub invariant-loop-declaration : goal.invariant-loop-declaration
invariant-loop-declaration l =
    let lead = led l.package.id.now (map dep_view l.deps) in
    lead (map declaration_view l.package.declarations.items) ≡ prepend (map dependency_view l.dependencies.items) (lead (map declaration_view (drop l.declaration-index l.declaration-items)))
