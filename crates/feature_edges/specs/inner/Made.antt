-- The edges of keys, as they are built.
use Rattle.std.specs.Prelude.{◌≡◌, ℕ, ◌<◌, ◌≤◌, ◌↔◌, List, [], ◌∷◌, ◌++◌, Contains, AllPairs, Some, slice_get, length, map, not}
use Rattle.std.specs.List.{zip}
use Rattle.digraphs.specs.declared.digraph.Edge.{Edge as End}
use Rattle.guppy_packages.specs.Tables.{Tables}
use Rattle.feature_edges.specs.Nodes.{first_node, node_packages}
use Rattle.feature_edges.specs.Candidates.{Edge, Candidate}
use Rattle.feature_links.specs.Facts.{EdgeFacts, is_dev_edge}
use Rattle.feature_edges.specs.Edges.{facts_of, first_ones}
use Rattle.feature_edges.specs.inner.Keys.{kind_of, IsNoLater, IsPair, IsBefore, AreLeast}
use Rattle.feature_links.specs.NamedLinks.{AreNamedLinks}
use Rattle.feature_edges.specs.DefaultNodes.{AreDefaultNodes}
use Rattle.feature_edges.specs.inner.Parts.{IsOfTables}
use Rattle.feature_edges.specs.declared.candidate.CandidateKind.TheVariants.{SlashWeak}
use Rattle.feature_edges.specs.declared.candidate.Key.{Key}
use Rattle.feature_edges.specs.inner.Weak.{AreGates, weak_sources}
use Rattle.feature_edges.specs.inner.GateNodes.{AreGateNodes}
use Rattle.feature_edges.specs.declared.make.Material.{Material}
use Rattle.feature_edges.specs.declared.table.MadeEdges.{MadeEdges}

-- The input for edges: the packages of nodes, the links by name, the nodes of features `default`, and the gates of package links.
pub record IsMaterial (m : Material) : Type 0 where
  pub packages : m.packages.now ≡ node_packages m.numbers.graph.now
  pub groups : AreNamedLinks m.numbers.graph.now m.groups.now
  pub defaults : AreDefaultNodes m.numbers.graph.now m.defaults.now
  pub gates : AreGateNodes m.numbers.graph.now m.gates.now

-- Sorted keys of the tables: for each source node of a key, all keys from that node.
pub record AreWholeKeys (t : Tables) (keys : List Key) : Type 0 where
  pub ordered : AllPairs IsNoLater keys
  pub of_tables : (y : Key) → Contains keys y → IsOfTables t y
  pub whole : (x y : Key) → Contains keys x → IsOfTables t y → y.from ≡ x.from → Contains keys y

-- `run` has exactly the keys of the tables for the pair of `x`, in order, and `x` is the first.
pub record IsRun (t : Tables) (x : Key) (run : List Key) : Type 0 where
  pub first : slice_get run 0 ≡ Some x
  pub ordered : AllPairs IsNoLater run
  pub exact : (y : Key) → Contains run y ↔ (IsOfTables t y × IsPair x y)

-- `f` is the built edge of the key's candidate, if `weak` are the weak links.
pub record IsValueOf (t : Tables) (weak : List ℕ) (x : Key) (f : EdgeFacts) : Type 0 where
  pub edge : Edge
  pub candidate : Candidate t x.from x.to edge
  pub kind : x.kind ≡ kind_of edge
  pub is : f ≡ facts_of t weak edge

-- `facts` has the built edge of each key.
pub record AreValues (t : Tables) (weak : List ℕ) (keys : List Key) (facts : List EdgeFacts) : Type 0 where
  pub long : length facts ≡ length keys
  pub each : (i : ℕ) (x : Key) (f : EdgeFacts) → slice_get keys i ≡ Some x → slice_get facts i ≡ Some f → IsValueOf t weak x f

-- `kept` are the least keys of the tables.
pub record IsKept (t : Tables) (kept : List Key) : Type 0 where
  pub keys : List Key
  pub of_tables : (x : Key) → Contains keys x ↔ IsOfTables t x
  pub least : AreLeast keys kept

-- The digraph's edge of a key, which is dev-only if the built edge is.
abbrev pub edge_end : Key → EdgeFacts → End
edge_end k f = record { from = k.from; to = k.to; non_dev = not (is_dev_edge f) }

-- The keys that start at the nodes from `n` up to, not including, `m`.
abbrev pub AreFrom : Tables → ℕ → ℕ → List Key → Type 0
AreFrom t n m keys = (x : Key) → Contains keys x ↔ (IsOfTables t x × (n ≤ x.from) × (x.from < m))

-- `kept` are the least keys of the nodes before `n`.
pub record IsKeptBefore (t : Tables) (n : ℕ) (kept : List Key) : Type 0 where
  pub keys : List Key
  pub of_nodes : AreFrom t 0 n keys
  pub least : AreLeast keys kept

-- Edge `number` is that of key `x`, for any weak links that follow. If it is weak, its link is noted.
pub record HasEdge (t : Tables) (m : MadeEdges) (x : Key) (number : ℕ) : Type 0 where
  pub of_tables : IsOfTables t x
  pub says : EdgeFacts
  pub at : slice_get m.edges number ≡ Some says
  pub value : (rest : List ℕ) → IsValueOf t (map (λ e. e.0) m.weak.entries ++ rest) x says
  pub noted : x.kind ≡ SlashWeak → Contains (map (λ e. e.0) m.weak.entries) x.source

-- The last key with an edge of its own has the noted edge.
abbrev pub IsLast : Tables → MadeEdges → Type 0
IsLast t m = (x : Key) (number : ℕ) → m.last ≡ Some (x, number) → HasEdge t m x number

-- The edge `f` of key `x` is appended.
pub record IsAppended (x : Key) (f : EdgeFacts) (old new : MadeEdges) : Type 0 where
  pub weak : new.weak.entries ≡ old.weak.entries
  pub last : new.last ≡ old.last
  pub edges : new.edges ≡ old.edges ++ f ∷ []
  pub ends : new.ends ≡ old.ends ++ edge_end x f ∷ []

-- The edge of key `x` is appended, and it is correct for any weak links that follow.
pub record IsAdded (t : Tables) (x : Key) (old new : MadeEdges) : Type 0 where
  pub says : EdgeFacts
  pub appended : IsAppended x says old new
  pub value : (rest : List ℕ) → IsValueOf t (map (λ e. e.0) new.weak.entries ++ rest) x says

-- `m` is built from these keys, for any weak links that follow.
pub record AreMade (t : Tables) (kept : List Key) (m : MadeEdges) : Type 0 where
  pub links : map (λ e. e.0) m.weak.entries ≡ first_ones (weak_sources kept)
  pub gates : AreGates t m.weak.entries
  pub values : (rest : List ℕ) → AreValues t (map (λ e. e.0) m.weak.entries ++ rest) kept m.edges
  pub ends : m.ends ≡ map (λ p. edge_end p.0 p.1) (zip kept m.edges)
  pub last : IsLast t m

-- The edges of the keys before `rest` are built: `new` has them after those of `old`.
pub record AreWalked (t : Tables) (keys rest : List Key) (old new : MadeEdges) : Type 0 where
  pub front : List Key
  pub kept : List Key
  pub whole : keys ≡ front ++ rest
  pub ordered : AllPairs IsNoLater rest
  pub least : AreLeast front kept
  pub apart : (a b : Key) → Contains front a → Contains rest b → IsBefore a b
  pub made : (done : List Key) → AreMade t done old → AreMade t (done ++ kept) new

-- `m` is built from the least keys of the nodes before `n`.
pub record AreMadeBefore (t : Tables) (n : ℕ) (m : MadeEdges) : Type 0 where
  pub kept : List Key
  pub is_kept : IsKeptBefore t n kept
  pub made : AreMade t kept m

-- `m` is built from the least keys of the packages before `p`.
abbrev pub AreMadeBelow : Tables → ℕ → MadeEdges → Type 0
AreMadeBelow t p m = AreMadeBefore t (first_node t p) m
