-- The steps of nodes from which routes lead.
use Rattle.std.specs.Prelude.{◌≡◌, ℕ, ◌+◌, ◌<◌, ◌≤◌, List, Option, Some, None, Contains, slice_index_or}
use Rattle.shortest_routes.specs.declared.step.Step.{Step}

-- The step of a node, if it has one.
abbrev pub step_at : List (Option Step) → ℕ → Option Step
step_at steps node = slice_index_or steps node None

-- A step of the node leads to a step with a distance that is less by one; without a next node, the node is a target.
abbrev pub LeadsBy : List (ℕ × ℕ) → List ℕ → List (Option Step) → ℕ → ℕ → Option ℕ → Type 0
LeadsBy links targets steps node distance None = Contains targets node × (distance ≡ 0)
LeadsBy links targets steps node distance (Some next) = Contains links (node, next) × ((s : Step) × (step_at steps next ≡ Some s) × (distance ≡ s.distance + 1))

-- The node has a step of at most this distance.
abbrev pub IsNear : List (Option Step) → ℕ → ℕ → Type 0
IsNear steps node distance = (s : Step) × (step_at steps node ≡ Some s) × (s.distance ≤ distance)

-- The steps of all nodes from which routes lead: those of targets have distance 0, and at the two ends of a link the distances differ by
-- at most one.
pub record AreSteps (links : List (ℕ × ℕ)) (targets : List ℕ) (steps : List (Option Step)) : Type 0 where
  pub lead : (node : ℕ) (s : Step) → step_at steps node ≡ Some s → LeadsBy links targets steps node s.distance s.next
  pub ends : (node : ℕ) → Contains targets node → IsNear steps node 0
  pub near : (from to : ℕ) (s : Step) → Contains links (from, to) → step_at steps to ≡ Some s → IsNear steps from (s.distance + 1)

-- The same during the search, where the nodes of `level` are at this distance: links that lead to nodes at lower distances were followed.
pub record IsSearched (links : List (ℕ × ℕ)) (targets : List ℕ) (distance : ℕ) (level : List ℕ) (steps : List (Option Step)) : Type 0 where
  pub lead : (node : ℕ) (s : Step) → step_at steps node ≡ Some s → LeadsBy links targets steps node s.distance s.next
  pub ends : (node : ℕ) → Contains targets node → IsNear steps node 0
  pub near : (from to : ℕ) (s : Step) → Contains links (from, to) → step_at steps to ≡ Some s → s.distance < distance → IsNear steps from (s.distance + 1)
  pub within : (node : ℕ) (s : Step) → step_at steps node ≡ Some s → s.distance ≤ distance
  pub in_level : (node : ℕ) (s : Step) → step_at steps node ≡ Some s → s.distance ≡ distance → Contains level node
  pub of_level : (node : ℕ) → Contains level node → (s : Step) × (step_at steps node ≡ Some s) × (s.distance ≡ distance)
