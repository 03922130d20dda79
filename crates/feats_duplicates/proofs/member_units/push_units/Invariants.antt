use Rattle.std.proofs.Common.{◌≡◌, ◌++◌, map, drop}
use Rattle.cargo_plans.specs.plan_units.UnitViews.{unit_text}
use Rattle.feats_duplicates.specs.Alone.{built_by}
use Rattle.feats_duplicates.specs.Views.{member_unit_text}
use Rattle.feats_duplicates.proofs.member_units.push_units.Given as goal

abbrev pub invariant-loop-unit : goal.invariant-loop-unit
invariant-loop-unit l =
    map member_unit_text l.initial.rows.items ++ map (built_by l.member) (map unit_text l.units)
    ≡ map member_unit_text l.rows.items ++ map (built_by l.member) (map unit_text (drop l.unit-index l.units))
