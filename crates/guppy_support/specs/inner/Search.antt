-- A search along edges: the set of the nodes found, and the list of those that wait to be followed.
use Rattle.std.specs.Prelude.{◌≡◌, ◌⊎◌, ◌+◌, ◌<◌, ℕ, Bool, List, Some, Contains, IsTrue, length, count_by, not, slice_get}
use Rattle.digraphs.specs.declared.digraph.Edge.{Edge}
use Rattle.digraphs.specs.Bits.{has}
use Rattle.guppy_support.specs.declared.reading.Reading.{Reading}
use Rattle.guppy_support.specs.Views.{starting, end_of}
use Rattle.guppy_support.specs.Reaches.{ReachAlong}

-- A bound on the steps left: the number of nodes that aren't found, plus the number that wait.
abbrev pub left_over : List Bool → List ℕ → ℕ
left_over found waiting = count_by not found + length waiting

-- The invariant of a search from `initials`.
pub record IsSearch (Step : ℕ → ℕ → Type 0) (initials : ℕ → Bool) (found : List Bool) (waiting : List ℕ) : Type 0 where
  pub reached : (v : ℕ) → IsTrue (has found v) → ReachAlong Step initials v
  pub waits : (v : ℕ) → Contains waiting v → IsTrue (has found v)
  -- Each step from a found node leads to a found node, unless the first one waits.
  pub closed : (u v : ℕ) → IsTrue (has found u) → Step u v → IsTrue (has found v) ⊎ Contains waiting u

-- A search goes on: what was found is found, and the invariant is kept.
pub record GoesOn (Step : ℕ → ℕ → Type 0) (old : List Bool) (was : List ℕ) (found : List Bool) (waiting : List ℕ) : Type 0 where
  pub size : length found ≡ length old
  pub kept : (v : ℕ) → IsTrue (has old v) → IsTrue (has found v)
  pub keeps : (initials : ℕ → Bool) → IsSearch Step initials old was → IsSearch Step initials found waiting

-- Edge `number` is followed, and ends at `v`.
pub record EndsAt (r : Reading) (es : List Edge) (follows : ℕ → Bool) (number v : ℕ) : Type 0 where
  pub followed : IsTrue (follows number)
  pub end : end_of r es number ≡ v

-- One of the first `count` edges that start at `node` is followed, and ends at `v`.
pub record LeadsTo (r : Reading) (es : List Edge) (follows : ℕ → Bool) (node count v : ℕ) : Type 0 where
  pub place : ℕ
  pub below : place < count
  pub number : ℕ
  pub is : slice_get (starting r es node) place ≡ Some number
  pub ends : EndsAt r es follows number v

-- The nodes of a kind are found, beside the earlier ones, and the new ones wait.
pub record Finds (Is : ℕ → Type 0) (old : List Bool) (was : List ℕ) (found : List Bool) (waiting : List ℕ) : Type 0 where
  pub size : length found ≡ length old
  pub kept : (v : ℕ) → IsTrue (has old v) → IsTrue (has found v)
  pub finds : (v : ℕ) → Is v → IsTrue (has found v)
  pub fresh : (v : ℕ) → IsTrue (has found v) → IsTrue (has old v) ⊎ (Is v × Contains waiting v)
  pub stays : (v : ℕ) → Contains was v → Contains waiting v
  pub waits : (v : ℕ) → Contains waiting v → Contains was v ⊎ IsTrue (has found v)
  pub same : left_over found waiting ≡ left_over old was
