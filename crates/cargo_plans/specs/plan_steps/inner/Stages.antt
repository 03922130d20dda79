-- What the stages of a plan return.
use Rattle.std.specs.Prelude.{◌≡◌, map, Option, Some, None, Result, Ok, Err, ⊤}
use Rattle.cargo_workspaces.specs.Workspaces.{WorkspaceText}
use Rattle.plan_rows.specs.Steps.{SettingsText}
use Rattle.plan_starts.specs.PackageVisits.{PairVisit}
use Rattle.plan_starts.specs.Starts.{Starts}
use Rattle.cargo_plans.specs.plan_units.UnitViews.{unit_text}
use Rattle.plan_starts.specs.step_visits.Visits.{place_view}
use Rattle.cargo_plans.specs.plan_steps.Plans.{AreBuilt, IsComplete, PlanText, lacks, not_on}
use Rattle.cargo_plans.specs.plan_steps.PlanViews.{plan_text}
use Rattle.cargo_plans.specs.declared.plan_steps.fault.StepFault.{StepFault}
use Rattle.cargo_plans.specs.declared.plan_steps.fault.StepFault.TheVariants as fault
use Rattle.cargo_plans.specs.declared.plan_steps.plan.Plan.{Plan}
use Rattle.cargo_plans.specs.declared.plan_steps.stages.Built.{Built}

-- Why nothing is built, where packages start.
abbrev pub Stops : WorkspaceText → SettingsText → PairVisit → Starts → StepFault → Type 0
Stops w s on from (fault.NoTests p) = ⊥
Stops w s on from (fault.NoTarget word) = ⊥
Stops w s on from (fault.Unmet p t) = from.unmet ≡ Some (p, t)
Stops w s on from (fault.NotOn p side) = (from.unmet ≡ None) × (not_on w s on from ≡ Some (p, side))
Stops w s on from (fault.Lacking p name) = (from.unmet ≡ None) × (not_on w s on from ≡ None) × (lacks w s on ≡ Some (p, name.now))
Stops w s on from fault.Memory = ⊤

-- What the checks return.
abbrev pub Checks : WorkspaceText → SettingsText → PairVisit → Starts → Option StepFault → Type 0
Checks w s on from None = IsComplete w s on from
Checks w s on from (Some e) = Stops w s on from e

-- The plan of what is built, where `on` is the visit of step `on`.
abbrev pub plan_with : PairVisit → Built → PlanText
plan_with on b = record { units = map unit_text b.units.items; on = on; built = b.visited; starts = map place_view b.starts.items }

-- What is built, or the first reason why nothing is.
abbrev pub Builds : WorkspaceText → SettingsText → PairVisit → Starts → Result Built StepFault → Type 0
Builds w s on from (Ok built) = IsComplete w s on from × AreBuilt w s on from (plan_with on built)
Builds w s on from (Err e) = Stops w s on from e

-- The plan of what is built, or the fault.
abbrev pub Planned : PairVisit → Result Built StepFault → Result Plan StepFault → Type 0
Planned on (Ok built) (Ok plan) = plan_text plan ≡ plan_with on built
Planned on (Ok built) (Err e) = ⊥
Planned on (Err e) (Ok plan) = ⊥
Planned on (Err e) (Err f) = f ≡ e
