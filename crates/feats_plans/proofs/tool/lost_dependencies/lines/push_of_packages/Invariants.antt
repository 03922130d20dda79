use Rattle.std.proofs.Common.{◌≡◌, ◌++◌, map, drop, flat_map, false}
use Rattle.cargo_workspaces.specs.Views.{package_text}
use Rattle.feats_plans.specs.tool.lost_dependencies.Lost.{package_lines}
use Rattle.feats_plans.specs.tool.lost_dependencies.Strings.{string_texts}
use Rattle.feats_plans.proofs.tool.lost_dependencies.lines.push_of_packages.Given as goal

abbrev pub invariant-loop-package : goal.invariant-loop-package
invariant-loop-package g l =
    let lines = flat_map (package_lines (g.P.Platform.holds l.host) (map g.P.Platform.holds l.targets) false) in
    string_texts l.initial.lines.items ++ lines (map package_text l.packages)
    ≡ string_texts l.lines.items ++ lines (map package_text (drop l.package-index l.packages))
