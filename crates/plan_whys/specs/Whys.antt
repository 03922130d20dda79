-- Why a label is on in a plan.
use Rattle.std.specs.Prelude.{◌≡◌, ℕ, true, false, List, Option, Some, None}
use Rattle.std.specs.Global.{Vec}
use Rattle.std.specs.List.{AllZip}
use Rattle.cargo_plans.specs.Plans.{WordsText, AfterWords, settings_by}
use Rattle.cargo_workspaces.specs.Workspaces.{WorkspaceText}
use Rattle.cargo_plans.specs.plan_rows.Steps.{SettingsText}
use Rattle.cargo_plans.specs.plan_starts.PackageVisits.{PairVisit, is_on}
use Rattle.cargo_plans.specs.plan_steps.Plans.{IsOn}
use Rattle.cargo_plans.specs.plan_units.Commands.{on_starts}
use Rattle.plan_starts.specs.step_visits.Visits.{is_start}
use Rattle.plan_whys.specs.StepViews.{found_text, spot_text}
use Rattle.plan_whys.specs.Steps.{SpotText, WhyText}
use Rattle.plan_whys.specs.declared.steps.Spot.{Spot}
use Rattle.plan_whys.specs.declared.steps.WhyStep.{WhyStep}
pub use Rattle.plan_whys.specs.NodeWhys.{IsWhyOf, node_of}

-- Some visit of step `resolved` goes before the visit `on`.
abbrev pub IsOnBy : WorkspaceText → SettingsText → PairVisit → Type 0
IsOnBy w s on = (kept : PairVisit) × IsOn w s kept on

-- Why a spot is on, from the places where step `on` starts.
pub record Explains (w : WorkspaceText) (s : SettingsText) (on : PairVisit) (spot : SpotText) (whys : List WhyText) : Type 0 where
  pub is_on : is_on on spot.side spot.number spot.label ≡ true
  pub node : ℕ
  pub is_node : node_of on spot ≡ Some node
  pub is_why : IsWhyOf on (is_start on.visit.tables (on_starts w s)) node whys

-- The answer: why the spot is on; `None` exactly if it's off.
abbrev pub Answers : WorkspaceText → SettingsText → PairVisit → SpotText → Option (List WhyText) → Type 0
Answers w s on spot None = is_on on spot.side spot.number spot.label ≡ false
Answers w s on spot (Some whys) = Explains w s on spot whys

-- The answer for the words of a command line.
abbrev pub AnswersBy : WorkspaceText → WordsText → PairVisit → SpotText → Option (List WhyText) → Type 0
AnswersBy w words on spot found = AfterWords w words (λ chosen. Answers w (settings_by words chosen) on spot found)

-- The answers for several spots, in their order.
abbrev pub AnswersEach : WorkspaceText → SettingsText → PairVisit → List Spot → List (Option (Vec WhyStep)) → Type 0
AnswersEach w s on spots founds = AllZip (λ at found. Answers w s on (spot_text at) (found_text found)) spots founds

-- The same for the words of a command line.
abbrev pub AnswersEachBy : WorkspaceText → WordsText → PairVisit → List Spot → List (Option (Vec WhyStep)) → Type 0
AnswersEachBy w words on spots founds = AfterWords w words (λ chosen. AnswersEach w (settings_by words chosen) on spots founds)
