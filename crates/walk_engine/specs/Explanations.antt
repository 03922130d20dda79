-- The reason why a node is a member of a walk.
use Rattle.std.specs.Prelude.{◌≡◌, ℕ, Bool, List, [], ◌∷◌, ◌++◌, Some, slice_get, map, take, IsTrue, IsFalse, if◌then◌else◌}
use Rattle.walk_engine.specs.declared.walks.Half.{Half}
use Rattle.walk_engine.specs.declared.walks.Ask.TheVariants as asks
use Rattle.walk_engine.specs.declared.walks.Step.{Step}
use Rattle.walk_engine.specs.declared.walks.StepReason.{StepReason}
use Rattle.walk_engine.specs.declared.walks.StepReason.TheVariants.{Initial, Edge, Offer}
use Rattle.walk_engine.specs.Walks.{Content, Way, Call, IsWay, has_half, has_gate, is_in, was_accepted, IsWalk}

-- The reason holds for node `n`, if the nodes of `before` are earlier and the offers in `A` were accepted.
abbrev pub IsReason : Content → (ℕ → Bool) → (ℕ → Half → Bool) → List ℕ → ℕ → StepReason → Type 0
IsReason c I A before n Initial = IsTrue (I n)
IsReason c I A before n (Edge e) = (w : Way) × IsWay c e w × (w.ask ≡ asks.Nobody) × (w.far ≡ n) × IsTrue (is_in before w.start)
IsReason c I A before n (Offer e h) = (w : Way) × IsWay c e w × IsTrue (has_half w.ask h) × IsTrue (A e h) × (w.far ≡ n) × IsTrue (is_in before w.start) × (IsTrue (has_gate w.ask h) → IsTrue (is_in before w.gate))

-- The nodes of an explanation, in its order.
abbrev pub nodes_of : List Step → List ℕ
nodes_of steps = map (λ s. s.node) steps

-- No number is in the list twice.
abbrev pub Distinct : List ℕ → Type 0
Distinct [] = Unit {0}
Distinct (x ∷ xs) = IsFalse (is_in xs x) × Distinct xs

-- Each step has a reason that holds by the steps before it.
abbrev pub HasReasons : Content → (ℕ → Bool) → (ℕ → Half → Bool) → List ℕ → List Step → Type 0
HasReasons c I A nodes steps = (k : ℕ) (step : Step) → slice_get steps k ≡ Some step → IsReason c I A (take k nodes) step.node step.reason

-- An explanation by offers in `A`: no node is listed twice, and each has a reason.
pub record IsExplanation (c : Content) (I : ℕ → Bool) (A : ℕ → Half → Bool) (steps : List Step) : Type 0 where
  pub once : Distinct (nodes_of steps)
  pub reasons : HasReasons c I A (nodes_of steps) steps

-- The refused offers of a run, in its order.
abbrev pub refused_of : List Call → List (ℕ × Half)
refused_of [] = []
refused_of (call ∷ before) = if call.answer then refused_of before else refused_of before ++ (call.edge, call.half) ∷ []

-- A walk with an explanation that lists its members and nothing else.
pub record IsExplainedWalk {O : Type 0} (c : Content) (I : ℕ → Bool) (gives : O → ℕ → Half → Bool → O → Type 0) (s t : O) (M : ℕ → Bool) (steps : List Step) (refused : List (ℕ × Half)) : Type 0 where
  pub walk : IsWalk c I gives s t M
  pub explanation : IsExplanation c I (was_accepted walk.run) steps
  pub listed : (n : ℕ) → M n ≡ is_in (nodes_of steps) n
  pub refused_in_order : refused ≡ refused_of walk.run
