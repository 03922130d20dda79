use Rattle.std.proofs.Common.{◌≡◌, ◌++◌, map, drop}
use Rattle.feats.specs.comparisons.differences.Builds.{parts_from}
use Rattle.feats.specs.comparisons.differences.Views.{build_text}
use Rattle.feats_diff.specs.changes.Views.{part_text}
use Rattle.cargo_plans.specs.plan_units.UnitViews.{unit_text}
use Rattle.feats.proofs.comparisons.differences.parts.parts_of.Given as goal

abbrev pub invariant-loop-number : goal.invariant-loop-number
invariant-loop-number l =
    parts_from (build_text l.build).targets (build_text l.build).workspace.packages 0 (map unit_text l.units)
    ≡ map part_text l.parts.items ++ parts_from (build_text l.build).targets (build_text l.build).workspace.packages l.number (map unit_text (drop l.number l.units))
