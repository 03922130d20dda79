-- Numbers of components.
use Rattle.std.specs.Prelude.{◌≡◌, ℕ, ◌<◌, ◌≤◌, List, length, slice_index}
use Rattle.digraphs.specs.Paths.{HasEdge, SameComponent}
use Rattle.digraphs.specs.Graph.{Graph}

-- Levels never fall along an edge, and two nodes have one level only if they are in one component.
pub record AreLevels (g : Graph) (levels : List ℕ) : Type 0 where
  pub long : length levels ≡ g.nodes
  pub ascends : (a b : ℕ) → HasEdge g.edges a b → slice_index levels a ≤ slice_index levels b
  pub same : (a b : ℕ) → a < g.nodes → b < g.nodes → slice_index levels a ≡ slice_index levels b → SameComponent g.edges a b

-- Two nodes of one component have one rank. `levels` orders the components along the edges.
pub record IsRanking (g : Graph) (ranks : List ℕ) : Type 0 where
  pub long : length ranks ≡ g.nodes
  pub levels : List ℕ
  pub are : AreLevels g levels
  pub one : (a b : ℕ) → a < g.nodes → b < g.nodes → slice_index levels a ≡ slice_index levels b → slice_index ranks a ≡ slice_index ranks b
  pub same : (a b : ℕ) → a < g.nodes → b < g.nodes → slice_index ranks a ≡ slice_index ranks b → SameComponent g.edges a b

-- Each node's rank is a node of its level, the same for all nodes of that level.
pub record AreRanked (levels ranks : List ℕ) : Type 0 where
  pub long : length ranks ≡ length levels
  pub node : (v : ℕ) → v < length levels → slice_index ranks v < length levels
  pub kept : (v : ℕ) → v < length levels → slice_index levels (slice_index ranks v) ≡ slice_index levels v
  pub one : (a b : ℕ) → a < length levels → b < length levels → slice_index levels a ≡ slice_index levels b → slice_index ranks a ≡ slice_index ranks b
