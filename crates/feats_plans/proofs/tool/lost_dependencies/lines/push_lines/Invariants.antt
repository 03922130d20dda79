use Rattle.std.proofs.Common.{◌≡◌, ◌++◌, map, drop}
use Rattle.cargo_workspaces.specs.Views.{declaration_text}
use Rattle.feats_plans.specs.tool.lost_dependencies.Lost.{lines_of}
use Rattle.feats_plans.specs.tool.lost_dependencies.Strings.{string_texts}
use Rattle.feats_plans.proofs.tool.lost_dependencies.lines.push_lines.Given as goal

abbrev pub invariant-loop-declaration : goal.invariant-loop-declaration
invariant-loop-declaration g l =
    let lines = lines_of (g.P.Platform.holds l.host) (map g.P.Platform.holds l.targets) l.for_tests l.id in
    string_texts l.initial.lines.items ++ lines (map declaration_text l.declarations)
    ≡ string_texts l.lines.items ++ lines (map declaration_text (drop l.declaration-index l.declarations))
