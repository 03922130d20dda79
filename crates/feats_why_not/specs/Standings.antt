-- How a part stands in a plan: whether it is on, and whether its package is built.
use Rattle.std.specs.Prelude.{ℕ, Bool}
use Rattle.feature_labels.specs.Names.{LabelName}
use Rattle.cargo_plans.specs.built_parts.Built.{state_of}
use Rattle.cargo_plans.specs.declared.built_parts.state.PartState.{PartState}
use Rattle.cargo_plans.specs.declared.built_parts.state.PartState.TheVariants as state
use Rattle.cargo_plans.specs.plan_steps.Plans.{PlanText}
use Rattle.plan_rows.specs.declared.side.Side.{Side}
use Rattle.plan_rows.specs.declared.side.Side.TheVariants.{Host, Target}
use Rattle.feats_why_not.specs.Parts.{PartText}

-- The part is on and its package is built, on this side; it is on, on this side, but its package isn't built where it is on; or it is off.
pub data StandingText : Type 0 where
  built_on : Side → StandingText
  unbuilt_on : Side → StandingText
  off : StandingText

-- By the states on the target side and on the host side.
abbrev pub standing_by : PartState → PartState → StandingText
standing_by state.Built host = built_on Target
standing_by state.Unbuilt state.Built = built_on Host
standing_by state.Unbuilt state.Unbuilt = unbuilt_on Target
standing_by state.Unbuilt state.Off = unbuilt_on Target
standing_by state.Off state.Built = built_on Host
standing_by state.Off state.Unbuilt = unbuilt_on Host
standing_by state.Off state.Off = off

abbrev pub standing_in : (Side → ℕ → LabelName → PartState) → PartText → StandingText
standing_in states part = standing_by (states Target part.number part.label) (states Host part.number part.label)

-- HOW THE PART STANDS in the plan. `split` is whether the resolver tells sides apart.
abbrev pub standing_of : Bool → PlanText → PartText → StandingText
standing_of split plan part = standing_in (state_of split plan) part
