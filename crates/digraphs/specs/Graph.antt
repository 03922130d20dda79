-- A digraph: a number of nodes, and edges that ascend by source and then by target.
use Rattle.std.specs.Prelude.{◌≡◌, ℕ, ◌+◌, ◌*◌, ◌^◌, ◌<◌, ◌≤◌, List, length, map, slice_index}
use Rattle.digraphs.specs.declared.digraph.Edge.{Edge}
use Rattle.digraphs.specs.declared.digraph.DigraphError.{DigraphError}
use Rattle.digraphs.specs.declared.digraph.DigraphError.TheVariants.{BadNode, Unsorted, Memory}

pub record Graph : Type 0 where
  pub nodes : ℕ
  pub edges : List Edge

abbrev pub sources : List Edge → List ℕ
sources es = map (λ e. e.from) es

abbrev pub targets : List Edge → List ℕ
targets es = map (λ e. e.to) es

-- The source and the target of edge `k`.
abbrev pub source_of : List Edge → ℕ → ℕ
source_of es k = slice_index (sources es) k

abbrev pub target_of : List Edge → ℕ → ℕ
target_of es k = slice_index (targets es) k

-- Both ends of edge `k` are nodes, numbers below `n`.
pub record JoinsNodes (n : ℕ) (es : List Edge) (k : ℕ) : Type 0 where
  pub from : source_of es k < n
  pub to : target_of es k < n

-- `(a, b)` is before `(c, d)` in lexicographic order.
pub record IsBefore (a b c d : ℕ) : Type 0 where
  pub by_first : a ≤ c
  pub by_second : a ≡ c → b < d

-- Edge `k` is after edge `j` by source, or by target if the sources are equal.
abbrev pub ComesAfter : List Edge → ℕ → ℕ → Type 0
ComesAfter es j k = IsBefore (source_of es j) (target_of es j) (source_of es k) (target_of es k)

-- Edge `k` has no fault: its ends are nodes, and it is after the edge before it.
pub record IsSound (n : ℕ) (es : List Edge) (k : ℕ) : Type 0 where
  pub nodes : JoinsNodes n es k
  pub sorted : (j : ℕ) → j + 1 ≡ k → ComesAfter es j k

abbrev pub IsDigraph : Graph → Type 0
IsDigraph g = (k : ℕ) → k < length g.edges → IsSound g.nodes g.edges k

-- The numbers of the nodes fit in 31 bits, and those of the edges in 32.
pub record IsNarrow (g : Graph) : Type 0 where
  pub nodes : 2 * g.nodes < 2 ^ 32
  pub edges : length g.edges < 2 ^ 32

-- The error for edges that aren't a digraph. It is about the first edge with a fault, and `BadNode` has
-- priority over `Unsorted`. `Memory` is only for edges without a fault.
pub data IsRefused (n : ℕ) (es : List Edge) : DigraphError → Type 0 where
  for_its_ends : (k : ℕ) → k < length es → ((j : ℕ) → j < k → IsSound n es j) → ¬ JoinsNodes n es k → IsRefused n es BadNode
  for_its_place : (j k : ℕ) → j + 1 ≡ k → k < length es → ((i : ℕ) → i < k → IsSound n es i) → JoinsNodes n es k → ¬ ComesAfter es j k → IsRefused n es Unsorted
  for_memory : ((k : ℕ) → k < length es → IsSound n es k) → IsRefused n es Memory

-- Edge `k` leads from `a` to `b`.
pub record IsEdgeAt (es : List Edge) (a b k : ℕ) : Type 0 where
  pub within : k < length es
  pub from : source_of es k ≡ a
  pub to : target_of es k ≡ b
