-- One explanation of everything that is on.
use Rattle.std.specs.Prelude.{◌≡◌, ℕ, Bool, List}
use Rattle.digraphs.specs.Bits.{has}
use Rattle.feature_core.specs.Built.{Built, IsBuilt}
use Rattle.feature_core.specs.Offers.{content_of}
use Rattle.guppy_packages.specs.declared.direction.DependencyDirection.TheVariants.{Forward}
use Rattle.cargo_plans.specs.Plans.{WordsText, AfterWords, settings_by}
use Rattle.cargo_workspaces.specs.Workspaces.{WorkspaceText}
use Rattle.cargo_plans.specs.plan_rows.Steps.{SettingsText}
use Rattle.cargo_plans.specs.plan_starts.PackageVisits.{PairVisit}
use Rattle.cargo_plans.specs.plan_units.Commands.{on_starts}
use Rattle.plan_starts.specs.step_visits.Visits.{is_start}
use Rattle.walk_engine.specs.Explanations.{IsExplanation, nodes_of}
use Rattle.walk_engine.specs.Laws.{every}
use Rattle.walk_engine.specs.Walks.{is_in}
use Rattle.walk_engine.specs.declared.walks.Step.{Step}
use Rattle.plan_whys.specs.Steps.{WhyText, AreStepsOf}

-- The steps of an explanation, from the nodes in `I` and by every offer, that lists exactly the nodes that are on.
pub record AreAllSteps (on : PairVisit) (I : ℕ → Bool) (whys : List WhyText) : Type 0 where
  pub built : Built
  pub is_built : IsBuilt on.visit.tables built
  pub steps : List Step
  pub explanation : IsExplanation (content_of Forward built) I every steps
  pub listed : (n : ℕ) → has on.visit.members n ≡ is_in (nodes_of steps) n
  pub are_steps : AreStepsOf on (content_of Forward built) steps whys

-- The same, from the places where step `on` starts.
abbrev pub ExplainsOn : WorkspaceText → SettingsText → PairVisit → List WhyText → Type 0
ExplainsOn w s on whys = AreAllSteps on (is_start on.visit.tables (on_starts w s)) whys

-- The same for the words of a command line.
abbrev pub IsExplanationBy : WorkspaceText → WordsText → PairVisit → List WhyText → Type 0
IsExplanationBy w words on whys = AfterWords w words (λ chosen. ExplainsOn w (settings_by words chosen) on whys)
