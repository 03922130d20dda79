use Rattle.std.proofs.Common.{◌≡◌, ◌++◌, map}
use Rattle.cargo_rows.specs.Warnings.{libraries_of}
use Rattle.workspace_documents.specs.Views.{package_view, entries_view, text_view}
use Rattle.cargo_rows.proofs.WarningLists.{packages_of}
use Rattle.cargo_rows.proofs.warnings.libraries_of.Given as goal

abbrev pub invariant-loop-package : goal.invariant-loop-package
invariant-loop-package l =
    libraries_of (packages_of (entries_view package_view l.packages.entries)) ≡ map text_view l.names.items ++ libraries_of (packages_of (entries_view package_view l.package-iterator))
