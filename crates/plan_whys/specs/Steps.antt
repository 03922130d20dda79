-- The steps of an explanation of step `on`, by package, side and label.
use Rattle.std.specs.Prelude.{◌≡◌, ℕ, ◌-◌, nat_lt, if◌then◌else◌, List, [], ◌∷◌, ◌++◌, map, take, slice_get, Contains, Option, Some, None, IfSome, ⊤, IsTrue, IsFalse}
use Rattle.std.specs.List.{AllZip}
use Rattle.feature_labels.specs.Names.{LabelName}
use Rattle.feature_core.specs.Nodes.{NodeAt}
use Rattle.cargo_plans.specs.plan_rows.declared.side.Side.{Side}
use Rattle.cargo_plans.specs.plan_rows.declared.side.Side.TheVariants.{Target, Host}
use Rattle.cargo_plans.specs.plan_starts.PackageVisits.{PairVisit}
use Rattle.walk_engine.specs.Walks.{Content, Way, IsWay, has_gate}
use Rattle.walk_engine.specs.declared.walks.Half.{Half}
use Rattle.walk_engine.specs.declared.walks.Step.{Step}
use Rattle.walk_engine.specs.declared.walks.StepReason.{StepReason}
use Rattle.walk_engine.specs.declared.walks.StepReason.TheVariants.{Initial, Edge, Offer}

-- A label of a package, on a side.
pub record SpotText : Type 0 where
  pub side : Side
  pub number : ℕ
  pub label : LabelName

-- Why a spot is on: a command feature is one of the selection, or another spot leads to it. `gate` is the optional dependency that
-- must be on as well, if there is one.
pub data ReasonText : Type 0 where
  selected : ReasonText
  from : SpotText → Option SpotText → ReasonText

pub record WhyText : Type 0 where
  pub spot : SpotText
  pub reason : ReasonText

-- A step, and every direct reason of its spot.
pub record ReasonedText : Type 0 where
  pub step : WhyText
  pub reasons : List ReasonText

-- The spot of a label of entry `k`, of `count` packages: the entries on the host side follow those on the target side.
abbrev pub spot_at : ℕ → ℕ → LabelName → SpotText
spot_at count k label = if nat_lt k count then record { side = Target; number = k; label = label } else record { side = Host; number = k - count; label = label }

-- Node `n` of the visit is at this spot.
abbrev pub IsAt : PairVisit → ℕ → SpotText → Type 0
IsAt on n spot = (k : ℕ) × (label : LabelName) × NodeAt on.visit.tables n k label × (spot ≡ spot_at on.count k label)

-- The gate of a way, if the half waits for it.
abbrev pub IsGateOf : PairVisit → Way → Half → Option SpotText → Type 0
IsGateOf on w h None = IsFalse (has_gate w.ask h)
IsGateOf on w h (Some gate) = IsTrue (has_gate w.ask h) × IsAt on w.gate gate

-- The reason of a step: the start of its edge, and the gate that its half waits for.
abbrev pub IsReasonOf : PairVisit → Content → StepReason → ReasonText → Type 0
IsReasonOf on c Initial selected = ⊤
IsReasonOf on c Initial (from start gate) = ⊥
IsReasonOf on c (Edge e) selected = ⊥
IsReasonOf on c (Edge e) (from start gate) = (w : Way) × IsWay c e w × IsAt on w.start start × (gate ≡ None)
IsReasonOf on c (Offer e h) selected = ⊥
IsReasonOf on c (Offer e h) (from start gate) = (w : Way) × IsWay c e w × IsAt on w.start start × IsGateOf on w h gate

-- A step by its spot and its reason.
abbrev pub IsStepOf : PairVisit → Content → Step → WhyText → Type 0
IsStepOf on c step why = IsAt on step.node why.spot × IsReasonOf on c step.reason why.reason

-- All steps, in their order.
abbrev pub AreStepsOf : PairVisit → Content → List Step → List WhyText → Type 0
AreStepsOf on c steps whys = AllZip (IsStepOf on c) steps whys

-- The spots that a reason names are among these.
abbrev pub IsBacked : List SpotText → ReasonText → Type 0
IsBacked spots selected = ⊤
IsBacked spots (from start gate) = Contains spots start × IfSome gate (Contains spots)

-- Each reason names spots of earlier steps alone. So the first one is that the spot is selected.
abbrev pub AreBacked : List WhyText → Type 0
AreBacked whys = (k : ℕ) (why : WhyText) → slice_get whys k ≡ Some why → IsBacked (map (λ y. y.spot) (take k whys)) why.reason

-- The last step is that of the spot.
abbrev pub EndsAt : List WhyText → SpotText → Type 0
EndsAt whys spot = (before : List WhyText) × (why : WhyText) × (whys ≡ before ++ why ∷ []) × (why.spot ≡ spot)
