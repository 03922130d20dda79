use Rattle.std.proofs.Common.{◌≡◌, ◌++◌, List, map}
use Rattle.cargo_json.specs.Faults.{Text}
use Rattle.cargo_rows.specs.Warnings.{libraries_of, all_warnings, warning_view}
use Rattle.workspace_documents.specs.Views.{node_view, package_view, entries_view}
use Rattle.cargo_rows.specs.inner.Views.{HasTexts}
use Rattle.cargo_rows.proofs.WarningLists.{packages_of}
use Rattle.cargo_rows.proofs.warnings.warnings_of_packages.Given as goal

abbrev pub invariant-loop-id : goal.invariant-loop-id
invariant-loop-id l =
    (texts : List Text) → HasTexts l.members texts →
    let libraries = libraries_of (packages_of (entries_view package_view l.packages.entries)) in
    let all = all_warnings libraries texts (entries_view node_view l.nodes.entries) in
    all (entries_view package_view l.packages.entries) ≡ map warning_view l.warnings.items ++ all (entries_view package_view l.id-iterator)
