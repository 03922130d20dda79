use Rattle.std.proofs.Common.{◌≡◌, List}
use Rattle.std.specs.String.{string_bytes}
use Rattle.cargo_json.specs.Faults.{Text}
use Rattle.cargo_rows.specs.Rows.{all_rows}
use Rattle.workspace_documents.specs.Views.{node_view, package_view, entries_view}
use Rattle.cargo_rows.specs.inner.Views.{HasTexts, after}
use Rattle.cargo_rows.proofs.metadata.rows_of_packages.Given as goal

abbrev pub invariant-loop-id : goal.invariant-loop-id
invariant-loop-id l =
    (texts : List Text) → HasTexts l.members texts →
    let all = all_rows texts (entries_view node_view l.nodes.entries) in
    all (entries_view package_view l.packages.entries) ≡ after (string_bytes l.rows) (all (entries_view package_view l.id-iterator))
