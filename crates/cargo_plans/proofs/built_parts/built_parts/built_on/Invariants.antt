use Rattle.std.proofs.Common.{◌≡◌, ℕ, map, take}
use Rattle.cargo_plans.specs.plan_units.UnitViews.{unit_text}
use Rattle.cargo_plans.specs.built_parts.Built as spec
use Rattle.cargo_plans.specs.built_parts.BuiltViews.{flag_at}
use Rattle.cargo_plans.proofs.built_parts.built_parts.built_on.Given as goal

abbrev pub invariant-loop-unit : goal.invariant-loop-unit
invariant-loop-unit l = (p : ℕ) → flag_at l.flags.items p ≡ spec.is_built l.split (map unit_text (take l.unit-index l.units)) l.side p
