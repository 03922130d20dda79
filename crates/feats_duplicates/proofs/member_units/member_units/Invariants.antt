use Rattle.std.proofs.Common.{◌≡◌, ◌++◌, flat_map, map, drop}
use Rattle.feats_duplicates.specs.Alone.{units_of_plan}
use Rattle.feats_duplicates.specs.Views.{member_plan_text, member_unit_text}
use Rattle.feats_duplicates.proofs.member_units.member_units.Given as goal

abbrev pub invariant-loop-plan : goal.invariant-loop-plan
invariant-loop-plan l =
    flat_map units_of_plan (map member_plan_text l.plans) ≡ map member_unit_text l.rows.items ++ flat_map units_of_plan (map member_plan_text (drop l.plan-index l.plans))
