use Rattle.std.proofs.Common.{◌≡◌, ◌++◌, drop, map}
use Rattle.cargo_workspaces.specs.Views.{package_text, texts}
use Rattle.cargo_plans.specs.plan_units.UnitViews.{unit_text}
use Rattle.feats_tree.specs.trees.Titles.{detail_text}
use Rattle.feats_tree.specs.packages.Titles.{unit_detail}
use Rattle.feats_tree.proofs.packages.details.details_of.Given as goal

abbrev pub invariant-loop-unit : goal.invariant-loop-unit
invariant-loop-unit l =
    let detail = unit_detail (texts l.names) (map package_text l.packages) in
    map detail (map unit_text l.units) ≡ map detail_text l.details.items ++ map detail (map unit_text (drop l.unit-index l.units))
