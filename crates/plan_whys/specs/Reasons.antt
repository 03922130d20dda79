-- All reasons why a node is on: the ways that lead to it from nodes that are on.
use Rattle.std.specs.Prelude.{◌≡◌, ◌&&◌, ◌||◌, ◌==◌, ℕ, Bool, not, List, [], ◌∷◌, ◌++◌, Option, Some, None, if◌then◌else◌}
use Rattle.std.specs.List.{AllZip}
use Rattle.guppy_packages.specs.declared.direction.DependencyDirection.TheVariants.{Forward}
use Rattle.digraphs.specs.Bits.{has}
use Rattle.feature_core.specs.Built.{Built, IsBuilt}
use Rattle.feature_core.specs.Offers.{content_of}
use Rattle.cargo_plans.specs.plan_starts.Lists.{joined_from}
use Rattle.cargo_plans.specs.plan_starts.PackageVisits.{PairVisit}
use Rattle.walk_engine.specs.Walks.{Content, Way}
use Rattle.walk_engine.specs.declared.walks.Ask.{Ask}
use Rattle.walk_engine.specs.declared.walks.Ask.TheVariants as asks
use Rattle.walk_engine.specs.declared.walks.Half.TheVariants as half
use Rattle.walk_engine.specs.declared.walks.StepReason.{StepReason}
use Rattle.walk_engine.specs.declared.walks.StepReason.TheVariants.{Edge, Offer}
use Rattle.plan_whys.specs.Steps.{SpotText, ReasonText, ReasonedText, WhyText, IsReasonOf}
use Rattle.plan_whys.specs.Whys.{node_of}

-- The reasons by the halves of weak edge `e`.
abbrev pub weak_reasons : ℕ → Bool → Bool → List StepReason
weak_reasons e required optional = (if required then Offer e half.Required ∷ [] else []) ++ (if optional then Offer e half.Optional ∷ [] else [])

-- The reasons by edge `e`, if its start is on. `gate` is whether its gate is on.
abbrev pub reasons_of : ℕ → Ask → Bool → List StepReason
reasons_of e asks.Nobody gate = Edge e ∷ []
reasons_of e asks.Full gate = Offer e half.Full ∷ []
reasons_of e (asks.Weak required gated) gate = weak_reasons e required (not gated || gate)

-- The reasons by way `w`, which has number `e`, why node `n` is on, where `M` are on.
abbrev pub reasons_by : (ℕ → Bool) → ℕ → ℕ → Way → List StepReason
reasons_by M n e w = if (w.far == n) && M w.start then reasons_of e w.ask (M w.gate) else []

-- Those by all ways.
abbrev pub all_reasons : Content → (ℕ → Bool) → ℕ → List StepReason
all_reasons c M n = joined_from (reasons_by M n) 0 c.ways

-- The reasons why a node of the visit is on.
pub record AreReasonsAt (on : PairVisit) (n : ℕ) (reasons : List ReasonText) : Type 0 where
  pub built : Built
  pub is_built : IsBuilt on.visit.tables built
  pub are_reasons : AllZip (IsReasonOf on (content_of Forward built)) (all_reasons (content_of Forward built) (has on.visit.members) n) reasons

-- None, if there is no node.
abbrev pub AreReasonsOf : PairVisit → Option ℕ → List ReasonText → Type 0
AreReasonsOf on None reasons = reasons ≡ []
AreReasonsOf on (Some n) reasons = AreReasonsAt on n reasons

-- The reasons why a spot is on.
abbrev pub AreReasons : PairVisit → SpotText → List ReasonText → Type 0
AreReasons on spot reasons = AreReasonsOf on (node_of on spot) reasons

-- The step, with every reason why its spot is on.
pub record IsReasoned (on : PairVisit) (step : WhyText) (reasoned : ReasonedText) : Type 0 where
  pub is_step : reasoned.step ≡ step
  pub are_reasons : AreReasons on step.spot reasoned.reasons

-- All steps, in their order.
abbrev pub AreReasoned : PairVisit → List WhyText → List ReasonedText → Type 0
AreReasoned on steps reasoned = AllZip (IsReasoned on) steps reasoned
