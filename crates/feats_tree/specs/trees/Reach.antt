-- The nodes to which links lead.
use Rattle.std.specs.Prelude.{ℕ, ◌≤◌, List, map, Contains, Option, Some, None, ⊤}
use Rattle.feats_tree.specs.declared.trees.trees.Branch.{Branch}

-- Links lead from a root to the node.
pub data Reaches (links : List (ℕ × ℕ)) (roots : List ℕ) : ℕ → Type 0 where
  root : (node : ℕ) → Contains roots node → Reaches links roots node
  link : (from to : ℕ) → Reaches links roots from → Contains links (from, to) → Reaches links roots to

abbrev pub IsWithin : Option ℕ → ℕ → Type 0
IsWithin None depth = ⊤
IsWithin (Some limit) depth = depth ≤ limit

-- Links lead to the branch's node, and it isn't too deep.
pub record IsLed (links : List (ℕ × ℕ)) (roots : List ℕ) (limit : Option ℕ) (b : Branch) : Type 0 where
  pub reached : Reaches links roots b.node
  pub within : IsWithin limit b.depth

-- Each node to which links lead has a branch.
abbrev pub HaveAll : List (ℕ × ℕ) → List ℕ → List Branch → Type 0
HaveAll links roots branches = (node : ℕ) → Reaches links roots node → Contains (map (λ b. b.node) branches) node
