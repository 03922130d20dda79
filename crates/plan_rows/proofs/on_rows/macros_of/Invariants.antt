use Rattle.std.proofs.Common.{◌≡◌, map, take}
use Rattle.cargo_workspaces.specs.Views.{package_text}
use Rattle.plan_rows.specs.Steps as steps
use Rattle.plan_rows.proofs.on_rows.macros_of.Given as goal

abbrev pub invariant-loop-package : goal.invariant-loop-package
invariant-loop-package l = l.macros.items ≡ steps.macros_of (map package_text (take l.package-index l.packages))
