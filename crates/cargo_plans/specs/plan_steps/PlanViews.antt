-- The values that plans contain, and what a result claims.
use Rattle.std.specs.Prelude.{ℕ, List, map, Result, Ok, Err, ⊤}
use Rattle.cargo_workspaces.specs.Workspaces.{WorkspaceText}
use Rattle.plan_rows.specs.Steps.{SettingsText}
use Rattle.cargo_plans.specs.plan_units.UnitViews.{unit_text}
use Rattle.plan_starts.specs.step_visits.Visits.{place_view}
use Rattle.plan_starts.specs.UnfitWords.{unfit_text}
use Rattle.cargo_plans.specs.plan_steps.Plans.{PlanText, IsPlan, HasNoTests, HasNoTarget, IsUnmet, IsNotOn, IsLacking}
use Rattle.cargo_plans.specs.declared.plan_steps.fault.StepFault.{StepFault}
use Rattle.cargo_plans.specs.declared.plan_steps.fault.StepFault.TheVariants as fault
use Rattle.cargo_plans.specs.declared.plan_steps.plan.Plan.{Plan}

abbrev pub plan_text : Plan → PlanText
plan_text p = record { units = map unit_text p.units.items; on = p.on; built = p.built; starts = map place_view p.starts.items }

-- Why there is no plan. Nothing is claimed if an allocation fails.
abbrev pub IsRefused : WorkspaceText → SettingsText → List ℕ → StepFault → Type 0
IsRefused w s selected (fault.NoTests p) = HasNoTests w s selected p
IsRefused w s selected (fault.NoTarget word) = HasNoTarget w s selected (unfit_text word)
IsRefused w s selected (fault.Unmet p t) = IsUnmet w s selected p t
IsRefused w s selected (fault.NotOn p side) = IsNotOn w s selected p side
IsRefused w s selected (fault.Lacking p name) = IsLacking w s selected p name.now
IsRefused w s selected fault.Memory = ⊤

-- A plan, or the first reason why there is none.
abbrev pub Plans : WorkspaceText → SettingsText → List ℕ → Result Plan StepFault → Type 0
Plans w s selected (Ok plan) = IsPlan w s selected (plan_text plan)
Plans w s selected (Err e) = IsRefused w s selected e
