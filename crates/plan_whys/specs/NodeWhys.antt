-- Why a node of step `on` is on.
use Rattle.std.specs.Prelude.{ℕ, ◌+◌, nat_lt, if◌then◌else◌, Bool, List, Option, None}
use Rattle.feature_core.specs.Built.{Built, IsBuilt}
use Rattle.feature_core.specs.Offers.{content_of}
use Rattle.guppy_packages.specs.declared.direction.DependencyDirection.TheVariants.{Forward}
use Rattle.cargo_plans.specs.plan_rows.Steps.{side_base}
use Rattle.cargo_plans.specs.plan_starts.PackageVisits.{PairVisit}
use Rattle.plan_starts.specs.step_visits.Visits.{node_at}
use Rattle.walk_checks.specs.Whys.{IsWhy}
use Rattle.walk_engine.specs.Explanations.{IsExplanation}
use Rattle.walk_engine.specs.Laws.{every}
use Rattle.walk_engine.specs.declared.walks.Step.{Step}
use Rattle.plan_whys.specs.Steps.{SpotText, WhyText, AreStepsOf}

-- The node of a spot in step `on`.
abbrev pub node_of : PairVisit → SpotText → Option ℕ
node_of on spot = if nat_lt spot.number on.count then node_at on.visit.tables (side_base on.count spot.side + spot.number) spot.label else None

-- WHY node `n` is on: an explanation, from the nodes in `I` and by every offer, and of its steps those on which the node rests.
pub record IsWhyOf (on : PairVisit) (I : ℕ → Bool) (n : ℕ) (whys : List WhyText) : Type 0 where
  pub built : Built
  pub is_built : IsBuilt on.visit.tables built
  pub steps : List Step
  pub explanation : IsExplanation (content_of Forward built) I every steps
  pub kept : List Step
  pub is_why : IsWhy (content_of Forward built) I every steps n kept
  pub are_steps : AreStepsOf on (content_of Forward built) kept whys
