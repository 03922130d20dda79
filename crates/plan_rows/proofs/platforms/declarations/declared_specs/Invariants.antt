use Rattle.std.proofs.Common.{◌≡◌, ◌++◌, map, drop}
use Rattle.cargo_workspaces.specs.Views.{package_text}
use Rattle.plan_rows.specs.platforms.DeclaredSpecs.{specs_from}
use Rattle.plan_rows.specs.platforms.Views.{declared_text}
use Rattle.plan_rows.proofs.platforms.declarations.declared_specs.Given as goal

abbrev pub invariant-loop-package : goal.invariant-loop-package
invariant-loop-package l =
    specs_from 0 (map package_text l.described-items)
    ≡ map declared_text l.specs.items ++ specs_from l.«package» (map package_text (drop l.«package» l.described-items))
