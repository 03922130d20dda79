use Rattle.std.proofs.Common.{◌++◌, ap, sym, map}
use Rattle.cargo_rows.specs.Warnings.{package_warnings, warning_view}
use Rattle.workspace_documents.specs.Views.{declaration_view, node_view, package_view}
use Rattle.cargo_rows.proofs.WarningLists.{warnings_from}
use Rattle.cargo_rows.proofs.warnings.push_warnings.Goals as goal

pub loop-declaration-init : goal.loop-declaration-init
unfolding package_warnings
loop-declaration-init c = λ texts held. ap (λ ds. map warning_view c.args.warnings.now.items ++ warnings_from texts (package_view c.args.package.now) (node_view c.args.node.now) (map declaration_view ds)) (sym c.deref-declaration-items.ensures.value)
