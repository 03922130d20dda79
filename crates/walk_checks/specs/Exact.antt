-- Explanations that leave nothing out.
use Rattle.std.specs.Prelude.{ℕ, Bool, false, not, List, [], ◌∷◌, IsTrue, ◌&&◌, ◌||◌, ◌==◌}
use Rattle.walk_engine.specs.declared.walks.Half.{Half}
use Rattle.walk_engine.specs.declared.walks.Step.{Step}
use Rattle.walk_engine.specs.declared.walks.StepReason.{StepReason}
use Rattle.walk_engine.specs.declared.walks.StepReason.TheVariants.{Initial, Edge, Offer}
use Rattle.walk_engine.specs.Walks.{Content, is_half, is_in, IsClosed}
use Rattle.walk_engine.specs.Explanations.{IsExplanation, IsExplainedWalk, nodes_of}

-- Whether the reason names the offer.
abbrev pub names : StepReason → ℕ → Half → Bool
names Initial e h = false
names (Edge k) e h = false
names (Offer k half) e h = (k == e) && is_half half h

-- Whether some step names the offer.
abbrev pub named_in : List Step → ℕ → Half → Bool
named_in [] e h = false
named_in (step ∷ steps) e h = names step.reason e h || named_in steps e h

-- Whether the offer is in the list of refused ones.
abbrev pub is_refused : List (ℕ × Half) → ℕ → Half → Bool
is_refused [] e h = false
is_refused (offer ∷ offers) e h = ((offer.0 == e) && is_half offer.1 h) || is_refused offers e h

-- All offers except the refused.
abbrev pub all_but : List (ℕ × Half) → ℕ → Half → Bool
all_but refused e h = not (is_refused refused e h)

-- An exact explanation: its offers aren't refused, and its nodes are closed for all offers that aren't.
pub record IsExact (c : Content) (I : ℕ → Bool) (refused : List (ℕ × Half)) (steps : List Step) : Type 0 where
  pub explanation : IsExplanation c I (all_but refused) steps
  pub closed : IsClosed c I (all_but refused) (λ n. IsTrue (is_in (nodes_of steps) n))

-- A walk with an explanation, for an offerer about which nothing is known.
abbrev pub IsExplainedRun : Content → (ℕ → Bool) → (ℕ → Bool) → List Step → List (ℕ × Half) → Type 0
IsExplainedRun c I M steps refused = IsExplainedWalk {O = Unit {0}} c I (λ s e h answer t. Unit {0}) tt tt M steps refused
