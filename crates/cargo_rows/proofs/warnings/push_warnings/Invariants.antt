use Rattle.std.proofs.Common.{◌≡◌, ◌++◌, List, map, drop}
use Rattle.cargo_json.specs.Faults.{Text}
use Rattle.cargo_rows.specs.Warnings.{package_warnings, warning_view}
use Rattle.workspace_documents.specs.Views.{declaration_view, node_view, package_view}
use Rattle.cargo_rows.specs.inner.Views.{HasTexts}
use Rattle.cargo_rows.proofs.WarningLists.{warnings_from}
use Rattle.cargo_rows.proofs.warnings.push_warnings.Given as goal

abbrev pub invariant-loop-declaration : goal.invariant-loop-declaration
invariant-loop-declaration l =
    (texts : List Text) → HasTexts l.libraries texts →
    let p = package_view l.package in
    let node = node_view l.node in
    map warning_view l.initial.warnings.items ++ package_warnings texts p node ≡ map warning_view l.warnings.items ++ warnings_from texts p node (map declaration_view (drop l.declaration-index l.declaration-items))
