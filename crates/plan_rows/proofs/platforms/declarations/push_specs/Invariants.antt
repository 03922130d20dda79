use Rattle.std.proofs.Common.{◌≡◌, ◌++◌, map, drop}
use Rattle.cargo_workspaces.specs.Views.{declaration_text}
use Rattle.plan_rows.specs.platforms.DeclaredSpecs.{specs_of}
use Rattle.plan_rows.specs.platforms.Views.{declared_text}
use Rattle.plan_rows.proofs.platforms.declarations.push_specs.Given as goal

abbrev pub invariant-loop-declaration : goal.invariant-loop-declaration
invariant-loop-declaration l =
    map declared_text l.initial.specs.items ++ specs_of l.«package» (map declaration_text l.declarations)
    ≡ map declared_text l.specs.items ++ specs_of l.«package» (map declaration_text (drop l.declaration-index l.declarations))
