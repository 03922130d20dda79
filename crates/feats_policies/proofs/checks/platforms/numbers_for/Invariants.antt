use Rattle.std.proofs.Common.{◌≡◌, ◌++◌, List, filter, map, drop}
use Rattle.cargo_plans.specs.plan_units.Units.{UnitText}
use Rattle.cargo_plans.specs.plan_units.UnitViews.{unit_text}
use Rattle.feats_policies.specs.checks.Builds.{is_built_for}
use Rattle.feats_policies.specs.checks.Views.{build_text}
use Rattle.feats_policies.proofs.checks.platforms.numbers_for.Given as goal

abbrev pub invariant-loop-unit : goal.invariant-loop-unit
invariant-loop-unit l =
    let numbers = λ (units : List UnitText). map (λ (u : UnitText). u.number) (filter (is_built_for (build_text l.build) l.triple l.side) units) in
    numbers (map unit_text l.units) ≡ l.numbers.items ++ numbers (map unit_text (drop l.unit-index l.units))
