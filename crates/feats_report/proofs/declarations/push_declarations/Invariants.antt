use Rattle.std.proofs.Common.{◌≡◌, ◌++◌, flat_map, map, drop}
use Rattle.cargo_plans.specs.built_parts.BuiltViews.{builds_in}
use Rattle.cargo_workspaces.specs.Views.{declaration_text, package_text}
use Rattle.feats_report.specs.Declarations.{declaration_line}
use Rattle.feats_report.proofs.declarations.push_declarations.Given as goal

abbrev pub invariant-loop-declaration : goal.invariant-loop-declaration
invariant-loop-declaration l =
    let line = declaration_line (builds_in l.parts) (map package_text l.packages) (package_text l.«package») in
    l.initial.text.items ++ flat_map line (map declaration_text l.declarations)
    ≡ l.text.items ++ flat_map line (map declaration_text (drop l.declaration-index l.declarations))
