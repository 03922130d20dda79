-- The state between two nodes of the order.
use Rattle.std.specs.Prelude.{◌≡◌, ◌≢◌, ℕ, ◌+◌, ◌<◌, ◌≤◌, ◌⊎◌, Bool, true, false, ◌||◌, ◌&&◌, ◌==◌, cond, not, List, [], ◌∷◌, length, map, nat_lt, set, take, drop, slice_index, slice_index_or, Contains}
use Rattle.digraphs.specs.declared.digraph.Edge.{Edge}
use Rattle.digraphs.specs.Graph.{Graph, IsDigraph, sources, targets}
use Rattle.digraphs.specs.Bits.{has, members}
use Rattle.digraphs.specs.Rows.{places}
use Rattle.digraph_orders.specs.inner.Ranks.{IsRanking}
use Rattle.digraph_orders.specs.Orders.{IsNext}
use Rattle.digraph_orders.specs.inner.Queues.{Joins}
use Rattle.digraph_orders.specs.inner.Counts.{count_below, IsTally, enters, holds}
use Rattle.digraph_orders.specs.inner.Heads.{IsDone, AreMarks, IsHead, IsWholeBut}
use Rattle.digraph_orders.specs.declared.order.listing.Plan.{Plan}

-- Edge `i` starts at a node that isn't done.
abbrev pub is_fresh : List Edge → List Bool → ℕ → Bool
is_fresh es done i = not (slice_index_or done (slice_index (sources es) i) false)

abbrev pub is_in : ℕ → List ℕ → Bool
is_in i [] = false
is_in i (x ∷ xs) = (x == i) || is_in i xs

-- Edge `i` starts at a node that isn't done, or is in `row` from place `k` on.
abbrev pub is_left : List Edge → List Bool → List ℕ → ℕ → ℕ → Bool
is_left es done row k i = is_fresh es done i || is_in i (drop k row)

-- Some node of component `c` is done.
pub record IsBegun (ranks : List ℕ) (done : List Bool) (c : ℕ) : Type 0 where
  pub by : ℕ
  pub marked : IsDone done by
  pub same : slice_index ranks by ≡ c

-- The head of component `c` is among the starts.
pub record IsWaiting (n : ℕ) (ranks held : List ℕ) (done : List Bool) (starts : List ℕ) (c : ℕ) : Type 0 where
  pub start : ℕ
  pub waits : Contains starts start
  pub same : slice_index ranks start ≡ c
  pub head : IsHead n ranks held done start

pub record IsPlan (g : Graph) (ranks listed : List ℕ) (done : List Bool) (left : ℕ → Bool) (outside held starts : List ℕ) : Type 0 where
  pub nodes : (a : ℕ) → Contains listed a → a < g.nodes
  pub marks : AreMarks listed done
  pub done_long : length done ≡ g.nodes
  pub counted : length listed + count_below (λ i. not (slice_index_or done i false)) g.nodes ≡ g.nodes
  pub outside_long : length outside ≡ g.nodes
  pub held_long : length held ≡ g.nodes
  pub entering : IsTally outside (length g.edges) left (enters g.edges ranks)
  pub holding : IsTally held (length g.edges) left (holds g.edges ranks)
  pub ordered : (k : ℕ) → k < length listed → IsNext g.edges g.nodes (take k listed) (slice_index listed k)
  -- Each edge into a component that has begun starts at a node that is done.
  pub entered : (a : ℕ) → IsDone done a → slice_index outside (slice_index ranks a) ≡ 0
  -- A component that is free to begin has begun, or its head is among the starts.
  pub waiting : (u : ℕ) → u < g.nodes → ¬ IsDone done u → slice_index outside (slice_index ranks u) ≡ 0
      → IsBegun ranks done (slice_index ranks u) ⊎ IsWaiting g.nodes ranks held done starts (slice_index ranks u)
  pub starts_nodes : (x : ℕ) → Contains starts x → x < g.nodes
  pub starting : (x : ℕ) → Contains starts x → IsBegun ranks done (slice_index ranks x)
      ⊎ (IsHead g.nodes ranks held done x × (slice_index outside (slice_index ranks x) ≡ 0))

-- The state inside component `c`, which has begun.
pub record IsRun (g : Graph) (ranks : List ℕ) (done : List Bool) (held ready rest : List ℕ) (c : ℕ) : Type 0 where
  pub whole : IsWholeBut g ranks done c
  pub begun : IsBegun ranks done c
  pub ready_all : (u : ℕ) → u < g.nodes → ¬ IsDone done u → slice_index ranks u ≡ c → slice_index held u ≡ 0 → Contains ready u
  pub ready_only : (u : ℕ) → Contains ready u → (u < g.nodes) × ((slice_index ranks u ≡ c) × (slice_index held u ≡ 0))
  pub rest_all : (u : ℕ) → u < g.nodes → ¬ IsDone done u → slice_index ranks u ≡ c → Contains rest u
  pub rest_only : (u : ℕ) → Contains rest u → (u < g.nodes) × (slice_index ranks u ≡ c)

-- `new` keeps the numbers of `old` that aren't done and aren't `x`, and adds none.
pub record AreCut (done : List Bool) (old : List ℕ) (x : ℕ) (new : List ℕ) : Type 0 where
  pub kept : (y : ℕ) → Contains old y → ¬ IsDone done y → y ≢ x → Contains new y
  pub only : (y : ℕ) → Contains new y → Contains old y

-- The first place from `from` on whose node isn't done.
pub record IsFreshPlace (row : List ℕ) (done : List Bool) (from place : ℕ) : Type 0 where
  pub after : from ≤ place
  pub within : place < length row
  pub fresh : ¬ IsDone done (slice_index row place)
  pub passed : (j : ℕ) → from ≤ j → j < place → IsDone done (slice_index row j)

-- `x` is the first of the row with no hold, or the first of all if each is held.
pub record IsFirst (row held : List ℕ) (x : ℕ) : Type 0 where
  pub place : ℕ
  pub within : place < length row
  pub is : slice_index row place ≡ x
  pub first : ((slice_index held x ≡ 0) × ((j : ℕ) → j < place → slice_index held (slice_index row j) ≢ 0))
      ⊎ ((place ≡ 0) × ((j : ℕ) → j < length row → slice_index held (slice_index row j) ≢ 0))

-- Only heads of component `c` were added to the starts. If `k` is 0, its head is among them.
pub record AreStarts (n : ℕ) (ranks held : List ℕ) (done : List Bool) (k c : ℕ) (old new : List ℕ) : Type 0 where
  pub kept : (y : ℕ) → Contains old y → Contains new y
  pub only : (y : ℕ) → Contains new y → Contains old y ⊎ ((k ≡ 0) × ((slice_index ranks y ≡ c) × IsHead n ranks held done y))
  pub waits : k ≡ 0 → IsWaiting n ranks held done new c

-- `b` was added if `k` is 0, and nothing else.
pub record AreReady (k b : ℕ) (old new : List ℕ) : Type 0 where
  pub kept : (y : ℕ) → Contains old y → Contains new y
  pub now : k ≡ 0 → Contains new b
  pub only : (y : ℕ) → Contains new y → ((y ≡ b) × (k ≡ 0)) ⊎ Contains old y

-- `x` is the least number of `old` that isn't done, and `new` is what is left.
pub record TakesFresh (done : List Bool) (old : List ℕ) (x : ℕ) (new : List ℕ) : Type 0 where
  pub was : Contains old x
  pub fresh : ¬ IsDone done x
  pub least : (y : ℕ) → Contains old y → ¬ IsDone done y → x ≤ y
  pub cut : AreCut done old x new

-- If `k` is 0, the first of the row was added to the starts; otherwise they are unchanged.
pub record StartsGrow (row held : List ℕ) (k : ℕ) (old new : List ℕ) : Type 0 where
  pub stays : k ≢ 0 → new ≡ old
  pub grows : k ≡ 0 → (x : ℕ) × IsFirst row held x × Joins old x new

-- The input: a digraph, and a rank for each node's component, below the number of nodes.
pub record IsSetup (g : Graph) (ranks : List ℕ) : Type 0 where
  pub digraph : IsDigraph g
  pub ranking : IsRanking g ranks
  pub small : (v : ℕ) → v < g.nodes → slice_index ranks v < g.nodes

-- The edge at `place` among those that leave `node`.
pub record IsOutEdge (g : Graph) (node place to : ℕ) (firm : Bool) : Type 0 where
  pub within : place < length (places node (sources g.edges))
  pub number : slice_index (places node (sources g.edges)) place < length g.edges
  pub from : slice_index (sources g.edges) (slice_index (places node (sources g.edges)) place) ≡ node
  pub to_is : slice_index (targets g.edges) (slice_index (places node (sources g.edges)) place) ≡ to
  pub firm_is : slice_index_or (map (λ e. e.non_dev) g.edges) (slice_index (places node (sources g.edges)) place) false ≡ firm
  pub node_to : to < g.nodes

-- `node` is listed, and its edges before `place` are passed.
pub record IsAt (g : Graph) (ranks : List ℕ) (node place : ℕ) (listed : List ℕ) (done : List Bool) (outside held starts ready rest : List ℕ) : Type 0 where
  pub plan : IsPlan g ranks listed done (is_left g.edges done (places node (sources g.edges)) place) outside held starts
  pub run : IsRun g ranks done held ready rest (slice_index ranks node)
  pub marked : IsDone done node

-- The nodes of component `c` from the plan's place `next` on.
abbrev pub rest_of : List ℕ → ℕ → Plan → List ℕ
rest_of ranks c p = drop p.next (places c ranks)

abbrev pub IsAtIn : Graph → List ℕ → ℕ → ℕ → Plan → Type 0
IsAtIn g ranks node place p = IsAt g ranks node place p.listed.items p.done p.outside.items p.held.items (members p.starts) (members p.ready) (rest_of ranks (slice_index ranks node) p)

-- The state between two nodes of component `c`.
pub record IsWithin (g : Graph) (ranks : List ℕ) (c : ℕ) (listed : List ℕ) (done : List Bool) (outside held starts ready rest : List ℕ) : Type 0 where
  pub plan : IsPlan g ranks listed done (is_fresh g.edges done) outside held starts
  pub run : IsRun g ranks done held ready rest c

abbrev pub IsWithinIn : Graph → List ℕ → ℕ → Plan → Type 0
IsWithinIn g ranks c p = IsWithin g ranks c p.listed.items p.done p.outside.items p.held.items (members p.starts) (members p.ready) (rest_of ranks c p)

-- `v` is next to be listed, and it is removed from the queues.
pub record IsChosen (g : Graph) (ranks : List ℕ) (v : ℕ) (listed : List ℕ) (done : List Bool) (outside held starts ready rest : List ℕ) : Type 0 where
  pub before : List ℕ
  pub plan : IsPlan g ranks listed done (is_fresh g.edges done) outside held before
  pub cut : AreCut done before v starts
  pub next : IsNext g.edges g.nodes listed v
  pub entered : slice_index outside (slice_index ranks v) ≡ 0
  pub run : IsRun g ranks (set done v true) held ready rest (slice_index ranks v)

abbrev pub IsChosenIn : Graph → List ℕ → ℕ → Plan → Type 0
IsChosenIn g ranks v p = IsChosen g ranks v p.listed.items p.done p.outside.items p.held.items (members p.starts) (members p.ready) (rest_of ranks (slice_index ranks v) p)

-- The state between two components.
pub record IsPause (g : Graph) (ranks listed : List ℕ) (done : List Bool) (outside held starts : List ℕ) : Type 0 where
  pub plan : IsPlan g ranks listed done (is_fresh g.edges done) outside held starts
  pub whole : (c : ℕ) → IsWholeBut g ranks done c

abbrev pub IsPauseIn : Graph → List ℕ → Plan → Type 0
IsPauseIn g ranks p = IsPause g ranks p.listed.items p.done p.outside.items p.held.items (members p.starts) × (members p.ready ≡ [])

-- Both queues have room for each node that `held` counts.
pub record HasRoom (p : Plan) : Type 0 where
  pub starts : length p.held.items ≤ length p.starts
  pub ready : length p.held.items ≤ length p.ready

-- `ready` has exactly the nodes of component `c` that aren't held; `v` may be missing.
pub record AreReadyBut (n : ℕ) (ranks held : List ℕ) (c v : ℕ) (ready : List ℕ) : Type 0 where
  pub ready_all : (u : ℕ) → u < n → slice_index ranks u ≡ c → slice_index held u ≡ 0 → u ≢ v → Contains ready u
  pub ready_only : (u : ℕ) → Contains ready u → (u < n) × ((slice_index ranks u ≡ c) × (slice_index held u ≡ 0))

-- `ready` has exactly the nodes of the row that aren't held; `v` may be missing.
pub record RowWaits (row held : List ℕ) (v : ℕ) (ready : List ℕ) : Type 0 where
  pub ready_all : (j : ℕ) → j < length row → slice_index held (slice_index row j) ≡ 0 → slice_index row j ≢ v → Contains ready (slice_index row j)
  pub ready_only : (y : ℕ) → Contains ready y → Contains row y × (slice_index held y ≡ 0)

-- `node` was added if it isn't held and isn't `v`.
pub record Waits (held : List ℕ) (v node : ℕ) (old new : List ℕ) : Type 0 where
  pub kept : (y : ℕ) → Contains old y → Contains new y
  pub now : slice_index held node ≡ 0 → node ≢ v → Contains new node
  pub only : (y : ℕ) → Contains new y → ((y ≡ node) × (slice_index held node ≡ 0)) ⊎ Contains old y

-- The edge with this number.
pub record IsEdge (g : Graph) (number from to : ℕ) (firm : Bool) : Type 0 where
  pub within : number < length g.edges
  pub from_is : slice_index (sources g.edges) number ≡ from
  pub to_is : slice_index (targets g.edges) number ≡ to
  pub firm_is : slice_index_or (map (λ e. e.non_dev) g.edges) number false ≡ firm
  pub node_from : from < g.nodes
  pub node_to : to < g.nodes

-- The edges below `number` are counted for the components that they enter, or the nodes that they hold.
pub record AreEntering (g : Graph) (ranks : List ℕ) (number : ℕ) (counts : List ℕ) : Type 0 where
  pub long : length counts ≡ g.nodes
  pub tally : IsTally counts (length g.edges) (λ i. nat_lt i number) (enters g.edges ranks)

-- The number of edges that enter each of the first `k` nodes that isn't in `several`, and 0 for each other node.
pub record AreDegrees (g : Graph) (several : List Bool) (k : ℕ) (counts : List ℕ) : Type 0 where
  pub long : length counts ≡ g.nodes
  pub lone : (v : ℕ) → v < k → has several v ≡ false → slice_index counts v ≡ length (places v (targets g.edges))
  pub several_none : (v : ℕ) → has several v ≡ true → slice_index counts v ≡ 0
  pub later_none : (v : ℕ) → k ≤ v → slice_index counts v ≡ 0

-- Edge `i` counts for component `c`, after the edges below `number`. If `c` is in `several`, it is one of these and
-- enters `c`. Otherwise it leads to the node `c`, and isn't one of these that leads from `c` itself.
abbrev pub counted : List Edge → List ℕ → List Bool → ℕ → ℕ → ℕ → Bool
counted es ranks several number c i =
    cond (has several c) (nat_lt i number && enters es ranks c i) ((slice_index (targets es) i == c) && not (nat_lt i number && (slice_index (sources es) i == c)))

pub record AreCounted (g : Graph) (ranks : List ℕ) (several : List Bool) (number : ℕ) (counts : List ℕ) : Type 0 where
  pub long : length counts ≡ g.nodes
  pub each : (c : ℕ) → c < g.nodes → slice_index counts c ≡ count_below (counted g.edges ranks several number c) (length g.edges)

-- The starts are the first node of each component below `k` that no edge enters.
pub record AreFirsts (ranks outside held : List ℕ) (k : ℕ) (starts : List ℕ) : Type 0 where
  pub waits : (c : ℕ) → c < k → 0 < length (places c ranks) → slice_index outside c ≡ 0 → (x : ℕ) × Contains starts x × IsFirst (places c ranks) held x
  pub only : (x : ℕ) → Contains starts x → (c : ℕ) × (slice_index outside c ≡ 0) × IsFirst (places c ranks) held x

pub record AreHolding (g : Graph) (ranks : List ℕ) (number : ℕ) (counts : List ℕ) : Type 0 where
  pub long : length counts ≡ g.nodes
  pub tally : IsTally counts (length g.edges) (λ i. nat_lt i number) (holds g.edges ranks)
