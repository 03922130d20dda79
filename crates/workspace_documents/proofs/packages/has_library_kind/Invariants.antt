use Rattle.std.proofs.Common.{◌≡◌, map, drop}
use Rattle.std.specs.List.{list_any}
use Rattle.cargo_workspaces.specs.Workspaces.{is_library_kind}
use Rattle.workspace_documents.specs.Views.{text_view}
use Rattle.workspace_documents.proofs.packages.has_library_kind.Given as goal

abbrev pub invariant-loop-kind : goal.invariant-loop-kind
invariant-loop-kind l =
    list_any is_library_kind (map text_view l.kinds) ≡ list_any is_library_kind (map text_view (drop l.kind-index l.kinds))
