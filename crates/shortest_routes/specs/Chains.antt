-- Routes over links between numbered nodes.
use Rattle.std.specs.Prelude.{ℕ, ◌≤◌, List, [], ◌∷◌, length, Contains}

-- A ROUTE from a node to the targets: the nodes of a chain of links, of which the first is this node and the last is a target.
pub data IsRoute (links : List (ℕ × ℕ)) (targets : List ℕ) : ℕ → List ℕ → Type 0 where
  end : (node : ℕ) → Contains targets node → IsRoute links targets node (node ∷ [])
  link : (from to : ℕ) (rest : List ℕ) → Contains links (from, to) → IsRoute links targets to rest → IsRoute links targets from (from ∷ rest)

-- A SHORTEST route from the starts: no route from a start is shorter.
pub record IsShortest (links : List (ℕ × ℕ)) (targets : List ℕ) (IsStart : ℕ → Type 0) (route : List ℕ) : Type 0 where
  pub start : ℕ
  pub is_start : IsStart start
  pub is_route : IsRoute links targets start route
  pub is_least : (other : ℕ) (longer : List ℕ) → IsStart other → IsRoute links targets other longer → length route ≤ length longer
