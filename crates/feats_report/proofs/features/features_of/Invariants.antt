use Rattle.std.proofs.Common.{◌≡◌, ◌++◌, map, drop}
use Rattle.cargo_plans.specs.built_parts.BuiltViews.{builds_in, is_built_in}
use Rattle.cargo_plans.specs.plan_starts.Lists.{joined_from}
use Rattle.cargo_workspaces.specs.Views.{package_text}
use Rattle.feats_report.specs.Features.{package_lines}
use Rattle.feats_report.proofs.features.features_of.Given as goal

abbrev pub invariant-loop-ix : goal.invariant-loop-ix
invariant-loop-ix l =
    let lines = package_lines (builds_in l.parts) (is_built_in l.parts) in
    joined_from lines 0 (map package_text l.packages) ≡ l.text.items ++ joined_from lines l.ix (map package_text (drop l.ix l.packages))
