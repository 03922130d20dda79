-- The head of a component: its node that is next.
use Rattle.std.specs.Prelude.{◌≡◌, ◌≢◌, ℕ, ◌<◌, ◌⊎◌, Bool, true, false, List, slice_index, slice_index_or, Contains}
use Rattle.digraphs.specs.Paths.{HasEdge}
use Rattle.digraphs.specs.Graph.{Graph}
use Rattle.digraph_orders.specs.Orders.{IsHeld}

abbrev pub IsDone : List Bool → ℕ → Type 0
IsDone done v = slice_index_or done v false ≡ true

-- The marks are the set of listed nodes.
pub record AreMarks (listed : List ℕ) (done : List Bool) : Type 0 where
  pub marked : (v : ℕ) → Contains listed v → IsDone done v
  pub listed_one : (v : ℕ) → IsDone done v → Contains listed v

-- A node's count is 0 exactly if it isn't held.
pub record AreHolds (g : Graph) (listed held : List ℕ) : Type 0 where
  pub some : (v : ℕ) → v < g.nodes → IsHeld g.edges listed v → slice_index held v ≢ 0
  pub holds : (v : ℕ) → v < g.nodes → slice_index held v ≢ 0 → IsHeld g.edges listed v

-- `v` is the head of its component. Among the nodes that aren't done, it is the least with no hold, or, if all
-- are held, the least.
pub record IsHead (n : ℕ) (ranks held : List ℕ) (done : List Bool) (v : ℕ) : Type 0 where
  pub node : v < n
  pub fresh : ¬ IsDone done v
  pub first : ((slice_index held v ≡ 0) × ((u : ℕ) → u < v → ¬ IsDone done u → slice_index ranks u ≡ slice_index ranks v → slice_index held u ≢ 0))
      ⊎ (((u : ℕ) → u < n → ¬ IsDone done u → slice_index ranks u ≡ slice_index ranks v → slice_index held u ≢ 0)
      × ((u : ℕ) → u < v → ¬ IsDone done u → slice_index ranks u ≢ slice_index ranks v))

-- No component except that of rank `c` is done in part.
abbrev pub IsWholeBut : Graph → List ℕ → List Bool → ℕ → Type 0
IsWholeBut g ranks done c = (a b : ℕ) → IsDone done a → b < g.nodes → ¬ IsDone done b → slice_index ranks a ≡ slice_index ranks b → slice_index ranks a ≡ c

-- Each edge into component `c` from outside starts at a node that is done.
abbrev pub IsEntered : Graph → List ℕ → List Bool → ℕ → Type 0
IsEntered g ranks done c = (a b : ℕ) → HasEdge g.edges a b → slice_index ranks b ≡ c → slice_index ranks a ≢ c → IsDone done a
