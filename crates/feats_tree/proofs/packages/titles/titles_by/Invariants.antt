use Rattle.std.proofs.Common.{◌≡◌, ◌++◌, drop, map}
use Rattle.std.specs.String.{string_bytes}
use Rattle.cargo_workspaces.specs.Views.{package_text, texts}
use Rattle.cargo_plans.specs.plan_units.UnitViews.{unit_text}
use Rattle.feats_tree.specs.packages.Titles.{unit_title}
use Rattle.feats_tree.proofs.packages.titles.titles_by.Given as goal

abbrev pub invariant-loop-unit : goal.invariant-loop-unit
invariant-loop-unit l =
    let title = unit_title (texts l.names) (map package_text l.packages) in
    map title (map unit_text l.units) ≡ map string_bytes l.titles.items ++ map title (map unit_text (drop l.unit-index l.units))
