-- Steps whose numbers are those of nodes and ways.
use Rattle.std.specs.Prelude.{◌≡◌, ◌↔◌, ℕ, ◌<◌, Bool, List, Option, Some, None, ⊤, IsTrue, IsFalse, All}
use Rattle.std.specs.Global.{Vec}
use Rattle.guppy_packages.specs.declared.direction.DependencyDirection.TheVariants.{Forward}
use Rattle.digraphs.specs.Bits.{has}
use Rattle.feature_core.specs.Built.{Built, IsBuilt}
use Rattle.feature_core.specs.Offers.{content_of}
use Rattle.walk_engine.specs.Laws.{every}
use Rattle.walk_engine.specs.Walks.{Content, Least, Way, IsWay, has_gate}
use Rattle.walk_engine.specs.declared.walks.Step.{Step}
use Rattle.walk_engine.specs.declared.walks.StepReason.{StepReason}
use Rattle.walk_engine.specs.declared.walks.StepReason.TheVariants.{Initial, Edge, Offer}
use Rattle.cargo_plans.specs.plan_starts.PackageVisits.{PairVisit}
use Rattle.plan_whys.specs.Steps.{WhyText}
use Rattle.plan_whys.specs.NodeWhys.{IsWhyOf, node_of}
use Rattle.plan_whys.specs.StepViews.{found_text, spot_text}
use Rattle.plan_whys.specs.declared.steps.Spot.{Spot}
use Rattle.plan_whys.specs.declared.steps.WhyStep.{WhyStep}

-- The reason's way is there, and its start is one of `nodes` nodes; so is the gate, if the half waits for it.
abbrev pub IsReasonInside : ℕ → Content → StepReason → Type 0
IsReasonInside nodes c Initial = ⊤
IsReasonInside nodes c (Edge e) = (w : Way) × IsWay c e w × (w.start < nodes)
IsReasonInside nodes c (Offer e h) = (w : Way) × IsWay c e w × (w.start < nodes) × (IsTrue (has_gate w.ask h) → w.gate < nodes)

abbrev pub IsInside : ℕ → Content → Step → Type 0
IsInside nodes c step = (step.node < nodes) × IsReasonInside nodes c step.reason

abbrev pub AreInside : ℕ → Content → List Step → Type 0
AreInside nodes c steps = All (IsInside nodes c) steps

-- The visit reached exactly the least set that has the nodes in `I`, with every offer accepted.
abbrev pub IsLeast : PairVisit → (ℕ → Bool) → Type 0
IsLeast on I = (b : Built) → IsBuilt on.visit.tables b → (n : ℕ) → IsTrue (has on.visit.members n) ↔ Least (content_of Forward b) I every n

-- Why the visit reached node `n`; `None` if it didn't.
abbrev pub NodeAnswers : PairVisit → (ℕ → Bool) → ℕ → Option (List WhyText) → Type 0
NodeAnswers on I n None = IsFalse (has on.visit.members n)
NodeAnswers on I n (Some whys) = IsTrue (has on.visit.members n) × IsWhyOf on I n whys

-- The same for the node of a spot, if it has one.
abbrev pub AnswersAt : PairVisit → (ℕ → Bool) → Option ℕ → Option (List WhyText) → Type 0
AnswersAt on I None found = found ≡ None
AnswersAt on I (Some n) found = NodeAnswers on I n found

-- The same for a spot.
abbrev pub SpotAnswers : PairVisit → (ℕ → Bool) → Spot → Option (Vec WhyStep) → Type 0
SpotAnswers on I at found = AnswersAt on I (node_of on (spot_text at)) (found_text found)
