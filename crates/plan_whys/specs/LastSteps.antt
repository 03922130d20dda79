-- The last steps of why labels are on.
use Rattle.std.specs.Prelude.{◌≡◌, ◌-◌, List, Option, Some, None, length, map, slice_get}
use Rattle.std.specs.List.{AllZip}
use Rattle.cargo_plans.specs.Plans.{WordsText, AfterWords, settings_by}
use Rattle.cargo_workspaces.specs.Workspaces.{WorkspaceText}
use Rattle.cargo_plans.specs.plan_rows.Steps.{SettingsText}
use Rattle.cargo_plans.specs.plan_starts.PackageVisits.{PairVisit}
use Rattle.plan_whys.specs.Steps.{SpotText, WhyText}
use Rattle.plan_whys.specs.Whys.{Answers}

-- The last step of an answer; `None` if the spot is off.
abbrev pub last_step : Option (List WhyText) → Option WhyText
last_step None = None
last_step (Some whys) = slice_get whys (length whys - 1)

-- The last steps of the answers for several spots, in their order.
pub record AreLastSteps (w : WorkspaceText) (s : SettingsText) (on : PairVisit) (spots : List SpotText) (lasts : List (Option WhyText)) : Type 0 where
  pub founds : List (Option (List WhyText))
  pub are_found : AllZip (Answers w s on) spots founds
  pub are_last : lasts ≡ map last_step founds

-- The same for the words of a command line.
abbrev pub AreLastStepsBy : WorkspaceText → WordsText → PairVisit → List SpotText → List (Option WhyText) → Type 0
AreLastStepsBy w words on spots lasts = AfterWords w words (λ chosen. AreLastSteps w (settings_by words chosen) on spots lasts)
