-- How parts stand, from the states of the two sides.
use Rattle.std.proofs.Common.{◌≡◌, Bool, true, false, ◌||◌, refl}
use Rattle.std.specs.Prelude.{IsFalse}
use Rattle.cargo_plans.specs.built_parts.Built.{is_built, state_if}
use Rattle.cargo_plans.specs.plan_starts.PackageVisits.{is_on}
use Rattle.cargo_plans.specs.plan_steps.Plans.{PlanText}
use Rattle.plan_rows.specs.declared.side.Side.{Side}
use Rattle.plan_rows.specs.declared.side.Side.TheVariants.{Host, Target}
use Rattle.plan_names.specs.wider.widenings.Findings.{are_some, sides_of}
use Rattle.feats_why_not.specs.Parts.{PartText}
use Rattle.feats_why_not.specs.Standings.{built_on, off, standing_by, standing_of}

on_at : (a b c d : Bool) (on : Side → Bool) (side : Side) → on Target ≡ a → on Host ≡ c → standing_by (state_if a b) (state_if c d) ≡ built_on side → on side ≡ true
on_at true true c d on Target x y h = x
on_at true true c d on Host x y h = absurd (cc)
on_at true false true true on Host x y h = y
on_at true false true true on Target x y h = x
on_at true false true false on side x y h = absurd (cc)
on_at true false false d on side x y h = absurd (cc)
on_at false b true true on Host x y h = y
on_at false b true true on Target x y h = absurd (cc)
on_at false b true false on side x y h = absurd (cc)
on_at false b false d on side x y h = absurd (cc)

-- what is built is on
pub built_is_on : (split : Bool) (plan : PlanText) (part : PartText) (side : Side) → standing_of split plan part ≡ built_on side → is_on plan.on side part.number part.label ≡ true
built_is_on split plan part side h =
    on_at (is_on plan.on Target part.number part.label) (is_built split plan.units Target part.number) (is_on plan.on Host part.number part.label) (is_built split plan.units Host part.number)
    (λ at. is_on plan.on at part.number part.label) side refl refl h

neither : (a b c d : Bool) → standing_by (state_if a b) (state_if c d) ≡ off → (a || c) ≡ false
neither true true c d h = absurd (cc)
neither true false true true h = absurd (cc)
neither true false true false h = absurd (cc)
neither true false false d h = absurd (cc)
neither false b true true h = absurd (cc)
neither false b true false h = absurd (cc)
neither false b false d h = refl

-- what is off is on on neither side
pub off_is_off : (split : Bool) (plan : PlanText) (part : PartText) → standing_of split plan part ≡ off → IsFalse (are_some (sides_of plan.on part.number part.label))
off_is_off split plan part h =
    neither (is_on plan.on Target part.number part.label) (is_built split plan.units Target part.number) (is_on plan.on Host part.number part.label) (is_built split plan.units Host part.number) h
