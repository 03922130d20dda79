-- What a search does: nodes without a step get one.
use Rattle.std.specs.Prelude.{◌≡◌, ◌⊎◌, ℕ, suc, ◌+◌, List, [], ◌∷◌, Option, Some, None, Contains, length}
use Rattle.shortest_routes.specs.inner.Steps.{step_at}
use Rattle.shortest_routes.specs.declared.step.Step.{Step}

abbrev pub HasStep : List (Option Step) → ℕ → Type 0
HasStep steps node = (s : Step) × (step_at steps node ≡ Some s)

-- The number of nodes without a step.
abbrev pub blanks : List (Option Step) → ℕ
blanks [] = 0
blanks (None ∷ steps) = suc (blanks steps)
blanks (Some s ∷ steps) = blanks steps

-- Some nodes without a step got one that they may get, and were appended to the list.
pub record Grows (May : ℕ → Step → Type 0) (old new : List (Option Step)) (before after : List ℕ) : Type 0 where
  pub size : length new ≡ length old
  pub kept : (node : ℕ) (s : Step) → step_at old node ≡ Some s → step_at new node ≡ Some s
  pub may : (node : ℕ) (s : Step) → step_at old node ≡ None → step_at new node ≡ Some s → May node s
  pub appended : (node : ℕ) → Contains after node → Contains before node ⊎ ((step_at old node ≡ None) × HasStep new node)
  pub stays : (node : ℕ) → Contains before node → Contains after node
  pub has_new : (node : ℕ) → step_at old node ≡ None → HasStep new node → Contains after node
  pub fewer : blanks new + length after ≡ blanks old + length before

-- The step that these nodes get.
abbrev pub IsReached : List ℕ → Step → ℕ → Step → Type 0
IsReached nodes step node s = Contains nodes node × (s ≡ step)

-- The step of a node before one of this level.
abbrev pub IsFrom : (ℕ → List ℕ) → List ℕ → ℕ → ℕ → Step → Type 0
IsFrom before level distance node s = (next : ℕ) × Contains level next × Contains (before next) node × (s ≡ record { distance = distance; next = Some next })
