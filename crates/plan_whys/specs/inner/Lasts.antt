-- The last steps of why nodes were reached.
use Rattle.std.specs.Prelude.{◌≡◌, ℕ, ◌<◌, Bool, List, Option, Some, None, slice_get, IsFalse}
use Rattle.cargo_plans.specs.plan_starts.PackageVisits.{PairVisit}
use Rattle.walk_engine.specs.Explanations.{nodes_of}
use Rattle.walk_engine.specs.Walks.{Content, is_in}
use Rattle.walk_engine.specs.declared.walks.Step.{Step}
use Rattle.plan_whys.specs.LastSteps.{last_step}
use Rattle.plan_whys.specs.NodeWhys.{node_of}
use Rattle.plan_whys.specs.StepViews.{last_text, spot_text}
use Rattle.plan_whys.specs.Steps.{IsStepOf, WhyText}
use Rattle.plan_whys.specs.declared.steps.Spot.{Spot}
use Rattle.plan_whys.specs.declared.steps.WhyStep.{WhyStep}
use Rattle.plan_whys.specs.inner.Nodes.{AnswersAt}

-- The step of node `n`; `None` if no step is that of `n`.
abbrev pub IsStepAt : PairVisit → Content → List Step → ℕ → Option WhyText → Type 0
IsStepAt on c steps n None = n < c.nodes → IsFalse (is_in (nodes_of steps) n)
IsStepAt on c steps n (Some why) = (k : ℕ) × (step : Step) × (slice_get steps k ≡ Some step) × (step.node ≡ n) × IsStepOf on c step why

-- The same for the node of a spot, if it has one.
abbrev pub IsStepAtNode : PairVisit → Content → List Step → Option ℕ → Option WhyText → Type 0
IsStepAtNode on c steps None why = why ≡ None
IsStepAtNode on c steps (Some n) why = IsStepAt on c steps n why

-- The same for a spot.
abbrev pub SpotStep : PairVisit → Content → List Step → Spot → Option WhyStep → Type 0
SpotStep on c steps at last = IsStepAtNode on c steps (node_of on (spot_text at)) (last_text last)

-- The last step of why the node was reached.
abbrev pub LastAt : PairVisit → (ℕ → Bool) → Option ℕ → Option WhyText → Type 0
LastAt on I node last = (found : Option (List WhyText)) × AnswersAt on I node found × (last ≡ last_step found)

-- The same for the node of a spot.
abbrev pub SpotLast : PairVisit → (ℕ → Bool) → Spot → Option WhyStep → Type 0
SpotLast on I at last = LastAt on I (node_of on (spot_text at)) (last_text last)
