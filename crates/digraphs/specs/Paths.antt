-- Paths and components of a list of edges.
use Rattle.std.specs.Prelude.{◌≡◌, ℕ, true, List, Contains}
use Rattle.digraphs.specs.declared.digraph.Edge.{Edge}

-- Some edge leads from `a` to `b`.
pub record HasEdge (es : List Edge) (a b : ℕ) : Type 0 where
  pub edge : Edge
  pub listed : Contains es edge
  pub from : edge.from ≡ a
  pub to : edge.to ≡ b

-- Some edge that isn't dev-only leads from `a` to `b`.
pub record HasFirmEdge (es : List Edge) (a b : ℕ) : Type 0 where
  pub edge : Edge
  pub listed : Contains es edge
  pub from : edge.from ≡ a
  pub to : edge.to ≡ b
  pub firm : edge.non_dev ≡ true

-- A path from one node to another; it may be empty.
pub data Path (es : List Edge) : ℕ → ℕ → Type 0 where
  nowhere : {a : ℕ} → Path es a a
  onward : {a b c : ℕ} → HasEdge es a b → Path es b c → Path es a c

-- Paths lead from `a` to `b` and back; both may be empty.
pub record SameComponent (es : List Edge) (a b : ℕ) : Type 0 where
  pub there : Path es a b
  pub back : Path es b a

-- Paths of at least one edge lead from `a` to `b` and back.
pub record OnCycle (es : List Edge) (a b : ℕ) : Type 0 where
  pub first : ℕ
  pub first_edge : HasEdge es a first
  pub there : Path es first b
  pub second : ℕ
  pub second_edge : HasEdge es b second
  pub back : Path es second a
