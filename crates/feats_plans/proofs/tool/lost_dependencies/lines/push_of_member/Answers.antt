use Rattle.std.proofs.Common.{◌∙◌, ◌++◌, [], Option, ap, map, sym, true}
use Rattle.std.proofs.lemmas.List.{append-nil}
use Rattle.std.specs.Option.{option_map_or}
use Rattle.cargo_workspaces.specs.Workspaces.{PackageText}
use Rattle.feats_plans.specs.tool.lost_dependencies.Lost.{package_lines}
use Rattle.feats_plans.specs.tool.lost_dependencies.Strings.{string_texts}
use Rattle.feats_plans.proofs.tool.lost_dependencies.lines.push_of_member.Goals as goal

pub returns-in-None : goal.returns-in-None
returns-in-None g c =
    let before = string_texts c.args.lines.now.items in
    let lines = package_lines (g.P.Platform.holds c.args.host.now) (map g.P.Platform.holds c.args.targets.now) true in
    sym (append-nil before) ∙ ap (λ (o : Option PackageText). before ++ option_map_or lines o []) c.in-None.ensures
