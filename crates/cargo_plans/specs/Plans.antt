-- The plan of a workspace by the words of a command line.
use Rattle.std.specs.Prelude.{◌≡◌, List, Bool, Ok}
use Rattle.cargo_workspaces.specs.Workspaces.{Text, WorkspaceText}
use Rattle.plan_words.specs.Choices.{ChosenText, choose}
use Rattle.plan_words.specs.Selections.{SelectionText}
use Rattle.plan_words.specs.TargetChoices.{TargetChoiceText}
use Rattle.plan_rows.specs.Steps.{SettingsText}
use Rattle.cargo_plans.specs.plan_steps.Plans.{PlanText, IsPlan}

-- What a command line says about a plan: the selection, which targets are chosen, and which platform specs hold for the host and for
-- each of the target platforms.
pub record WordsText : Type 0 where
  pub selection : SelectionText
  pub choice : TargetChoiceText
  pub host : Text → Bool
  pub targets : List (Text → Bool)

-- The settings of a plan, if the words choose these packages and command features.
abbrev pub settings_by : WordsText → ChosenText → SettingsText
settings_by words chosen = record { split = words.selection.split; choice = words.choice; commands = chosen.commands; host = words.host; targets = words.targets }

-- The words aren't refused, and what they choose has the property.
pub record AfterWords (w : WorkspaceText) (words : WordsText) (P : ChosenText → Type 0) : Type 0 where
  pub chosen : ChosenText
  pub are_accepted : choose w words.selection ≡ Ok chosen
  pub holds : P chosen

-- A PLAN by the words of a command line.
abbrev pub IsPlanOf : WorkspaceText → WordsText → PlanText → Type 0
IsPlanOf w words plan = AfterWords w words (λ chosen. IsPlan w (settings_by words chosen) chosen.selected plan)
