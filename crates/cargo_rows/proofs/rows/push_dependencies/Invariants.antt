use Rattle.std.proofs.Common.{◌≡◌, map, drop}
use Rattle.std.specs.String.{string_bytes}
use Rattle.cargo_rows.specs.Rows.{dependency_rows}
use Rattle.workspace_documents.specs.Views.{dependency_view}
use Rattle.cargo_rows.specs.inner.Views.{after}
use Rattle.cargo_rows.proofs.rows.push_dependencies.Given as goal

abbrev pub invariant-loop-dependency : goal.invariant-loop-dependency
invariant-loop-dependency l =
    after (string_bytes l.initial.rows) (dependency_rows (map dependency_view l.dependencies)) ≡ after (string_bytes l.rows) (dependency_rows (map dependency_view (drop l.dependency-index l.dependencies)))
