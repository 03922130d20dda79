-- The order: each next node is the least available one.
use Rattle.std.specs.Prelude.{◌≡◌, ◌≢◌, ℕ, ◌<◌, ◌⊎◌, List, length, take, Contains, slice_index}
use Rattle.digraphs.specs.declared.digraph.Edge.{Edge}
use Rattle.digraphs.specs.Paths.{HasEdge, HasFirmEdge, SameComponent}

-- `b` is held: another node of its component isn't listed and has an edge to `b` that isn't dev-only.
pub record IsHeld (es : List Edge) (listed : List ℕ) (b : ℕ) : Type 0 where
  pub by : ℕ
  pub other : by ≢ b
  pub fresh : ¬ Contains listed by
  pub same : SameComponent es by b
  pub edge : HasFirmEdge es by b

-- `v` is available after the nodes in `listed`, in a graph of `n` nodes.
pub record IsAvailable (es : List Edge) (n : ℕ) (listed : List ℕ) (v : ℕ) : Type 0 where
  pub node : v < n
  pub fresh : ¬ Contains listed v
  -- No other component is listed in part.
  pub whole : (a b : ℕ) → Contains listed a → SameComponent es a b → ¬ SameComponent es a v → Contains listed b
  -- Each edge into `v`'s component from outside starts at a listed node.
  pub entered : (a b : ℕ) → HasEdge es a b → SameComponent es b v → ¬ SameComponent es a v → Contains listed a
  -- `v` isn't held, or each unlisted node of its component is.
  pub ready : (¬ IsHeld es listed v) ⊎ ((b : ℕ) → SameComponent es b v → ¬ Contains listed b → IsHeld es listed b)

pub record IsNext (es : List Edge) (n : ℕ) (listed : List ℕ) (v : ℕ) : Type 0 where
  pub available : IsAvailable es n listed v
  pub least : (u : ℕ) → u < v → ¬ IsAvailable es n listed u

-- `list` is the order: `n` nodes, and each is the least one available after those before it.
pub record IsOrder (es : List Edge) (n : ℕ) (list : List ℕ) : Type 0 where
  pub long : length list ≡ n
  pub next : (k : ℕ) → k < n → IsNext es n (take k list) (slice_index list k)

-- The list has `n` elements: the numbers below `n`, each once.
pub record ListsEach (n : ℕ) (list : List ℕ) : Type 0 where
  pub long : length list ≡ n
  pub below : (i : ℕ) → i < n → slice_index list i < n
  pub apart : (i j : ℕ) → i < j → j < n → slice_index list i ≢ slice_index list j
  pub every : (v : ℕ) → v < n → Contains list v
