use Rattle.std.proofs.Common.{◌≡◌, map, drop}
use Rattle.std.specs.List.{find}
use Rattle.workspace_documents.specs.Dependencies.{is_other_name}
use Rattle.workspace_documents.specs.Views.{dependency_view}
use Rattle.workspace_documents.proofs.dependencies.other_name.Given as goal

abbrev pub invariant-loop-other : goal.invariant-loop-other
invariant-loop-other l =
    find (is_other_name (dependency_view l.one)) (map dependency_view l.dependencies) ≡ find (is_other_name (dependency_view l.one)) (map dependency_view (drop l.other-index l.dependencies))
