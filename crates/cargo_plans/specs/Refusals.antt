-- Why words have no plan: the first reason.
use Rattle.std.specs.Prelude.{◌≡◌, Bool, true, false, Err}
use Rattle.cargo_workspaces.specs.Workspaces.{WorkspaceText}
use Rattle.plan_words.specs.Choices.{choose}
use Rattle.plan_words.specs.Refusals.{refusal_of}
use Rattle.cargo_plans.specs.plan_steps.PlanViews.{IsRefused}
use Rattle.cargo_plans.specs.declared.plan_steps.fault.StepFault.TheVariants as step
use Rattle.cargo_plans.specs.Plans.{WordsText, AfterWords, settings_by}
use Rattle.cargo_plans.specs.declared.fault.PlanFault.{PlanFault}
use Rattle.cargo_plans.specs.declared.fault.PlanFault.TheVariants as fault

-- The words themselves are refused, or else a step refuses what they choose. Nothing is claimed if an allocation fails.
abbrev pub IsRefusal : WorkspaceText → WordsText → PlanFault → Type 0
IsRefusal w words (fault.Words e) = choose w words.selection ≡ Err (refusal_of e)
IsRefusal w words (fault.Steps step.Memory) = Unit {0}
IsRefusal w words (fault.Steps e) = AfterWords w words (λ chosen. IsRefused w (settings_by words chosen) chosen.selected e)

-- An allocation failed.
abbrev pub is_memory : PlanFault → Bool
is_memory (fault.Steps step.Memory) = true
is_memory _ = false
