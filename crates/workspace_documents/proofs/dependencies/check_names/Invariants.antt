use Rattle.std.proofs.Common.{◌≡◌, map, drop}
use Rattle.workspace_documents.specs.Dependencies.{agree}
use Rattle.workspace_documents.specs.Views.{dependency_view}
use Rattle.workspace_documents.proofs.dependencies.check_names.Given as goal

abbrev pub invariant-loop-one : goal.invariant-loop-one
invariant-loop-one l =
    let all = map dependency_view l.dependencies in
    agree l.package.id.now all all ≡ agree l.package.id.now all (map dependency_view (drop l.one-index l.dependencies))
