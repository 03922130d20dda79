-- The state of the walk that finds components.
use Rattle.std.specs.Prelude.{◌≡◌, ◌≢◌, ℕ, ◌+◌, ◌-◌, ◌*◌, ◌<◌, ◌≤◌, ◌==◌, Bool, true, false, List, length, sum_by, slice_index}
use Rattle.digraphs.specs.Paths.{HasEdge, Path, SameComponent}
use Rattle.digraphs.specs.Graph.{Graph, sources}
use Rattle.digraphs.specs.Rows.{places}
use Rattle.digraphs.specs.Bits.{has}
use Rattle.digraph_orders.specs.inner.Counts.{count_below}
use Rattle.digraph_orders.specs.inner.NodeEdges.{target_at}
use Rattle.digraph_orders.specs.declared.components.walk.Walk.{Walk}

-- The number of nodes below `n` that aren't entered.
abbrev pub unentered : ℕ → List ℕ → ℕ
unentered n marks = count_below (λ v. slice_index marks v == 0) n

-- The invariant of the walk. A mark is 0 before its node is entered, then one plus its place in `pending`, and
-- then the level of its component. Levels are above the number of nodes. Pending nodes from one bound up to the
-- next are in one component, and lead to all later ones.
pub record IsWalking (g : Graph) (marks pending bounds opened left : List ℕ) (level : ℕ) : Type 0 where
  pub marks_long : length marks ≡ g.nodes
  pub left_long : length left ≡ length opened
  pub room : g.nodes + length pending + unentered g.nodes marks ≤ level
  pub level_high : level ≤ 2 * g.nodes
  pub placed : (i : ℕ) → i < length pending → (slice_index pending i < g.nodes) × (slice_index marks (slice_index pending i) ≡ i + 1)
  pub known : (v : ℕ) → 0 < slice_index marks v → slice_index marks v ≤ g.nodes
      → (slice_index marks v ≤ length pending) × (slice_index pending (slice_index marks v - 1) ≡ v)
  pub opened_pending : (i : ℕ) → i < length opened → (0 < slice_index marks (slice_index opened i)) × (slice_index marks (slice_index opened i) ≤ length pending)
  pub opened_rise : (i j : ℕ) → i < j → j < length opened → slice_index marks (slice_index opened i) < slice_index marks (slice_index opened j)
  pub few_left : (i : ℕ) → i < length opened → slice_index left i ≤ length (places (slice_index opened i) (sources g.edges))
  pub first : 0 < length pending → (0 < length bounds) × (slice_index bounds 0 ≡ 0)
  pub bounds_rise : (i j : ℕ) → i < j → j < length bounds → slice_index bounds i < slice_index bounds j
  pub bounds_open : (i : ℕ) → i < length bounds
      → (slice_index bounds i < length pending) × ((k : ℕ) × (k < length opened) × (slice_index opened k ≡ slice_index pending (slice_index bounds i)))
  pub ahead : (i j : ℕ) → i < length bounds → slice_index bounds i ≤ j → j < length pending
      → Path g.edges (slice_index pending (slice_index bounds i)) (slice_index pending j)
  pub behind : (i j : ℕ) → i < length bounds → j < length pending → (i + 1 < length bounds → j < slice_index bounds (i + 1))
      → Path g.edges (slice_index pending j) (slice_index pending (slice_index bounds i))
  -- An edge that was passed doesn't lead behind a bound that is before its source.
  pub passed : (i k b : ℕ) → i < length opened → k + slice_index left i < length (places (slice_index opened i) (sources g.edges))
      → b < length bounds → slice_index bounds b < slice_index marks (slice_index opened i)
      → slice_index bounds b < slice_index marks (target_at g.edges (slice_index opened i) k)
  pub closed : (v x b : ℕ) → 0 < slice_index marks v → slice_index marks v ≤ g.nodes → ((i : ℕ) → i < length opened → slice_index opened i ≢ v)
      → HasEdge g.edges v x → b < length bounds → slice_index bounds b < slice_index marks v → slice_index bounds b < slice_index marks x
  pub below : (v : ℕ) → g.nodes < slice_index marks v → level < slice_index marks v
  pub high : (v : ℕ) → slice_index marks v ≤ 2 * g.nodes
  pub ascends : (a b : ℕ) → g.nodes < slice_index marks a → HasEdge g.edges a b → slice_index marks a ≤ slice_index marks b
  pub same : (a b : ℕ) → g.nodes < slice_index marks a → slice_index marks a ≡ slice_index marks b → SameComponent g.edges a b

-- Each node in `finished` has a level. A node that has one and isn't in `several` is the only node of its level.
pub record AreFinished (n : ℕ) (marks : List ℕ) (finished several : List Bool) : Type 0 where
  pub long : length finished ≡ n
  pub several_long : length several ≡ n
  pub levels : (v : ℕ) → has finished v ≡ true → n < slice_index marks v
  pub alone : (v u : ℕ) → n < slice_index marks v → slice_index marks v ≡ slice_index marks u → has several v ≡ false → u ≡ v

abbrev pub IsWalk : Graph → Walk → Type 0
IsWalk g w = IsWalking g w.marks.items w.pending.items w.bounds.items w.opened.items w.left.items w.level × AreFinished g.nodes w.marks.items w.finished w.several

-- `v` is in the set, or in the list from a place on.
pub data IsInOrFrom (set : List Bool) (list : List ℕ) (from v : ℕ) : Type 0 where
  was : has set v ≡ true → IsInOrFrom set list from v
  at_place : (i : ℕ) → from ≤ i → i < length list → slice_index list i ≡ v → IsInOrFrom set list from v

-- A bound on the number of steps left.
abbrev pub steps_left : Graph → Walk → ℕ
steps_left g w = unentered g.nodes w.marks.items * (length g.edges + 2) + (sum_by (λ k. k) w.left.items + length w.opened.items)

-- The marks of the pending nodes from a place on are now `level`, and the other marks are unchanged.
pub record AreGiven (old new : List ℕ) (from to level : ℕ) : Type 0 where
  pub given : (v : ℕ) → from < slice_index old v → slice_index old v ≤ to → slice_index new v ≡ level
  pub low : (v : ℕ) → slice_index old v ≤ from → slice_index new v ≡ slice_index old v
  pub high : (v : ℕ) → to < slice_index old v → slice_index new v ≡ slice_index old v

-- `new` is `old` with `x` appended.
pub record IsMore (old new : List ℕ) (x : ℕ) : Type 0 where
  pub long : length new ≡ length old + 1
  pub kept : (i : ℕ) → i < length old → slice_index new i ≡ slice_index old i
  pub last : slice_index new (length old) ≡ x

-- `new` is a prefix of `old`.
pub record IsFrontOf (old new : List ℕ) : Type 0 where
  pub shorter : length new ≤ length old
  pub kept : (i : ℕ) → i < length new → slice_index new i ≡ slice_index old i
