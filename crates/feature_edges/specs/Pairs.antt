-- The pairs of nodes that have a candidate, and the reach over them.
use Rattle.std.specs.Prelude.{◌≡◌, ℕ, ◌<◌, ◌⊎◌, ◌↔◌, List, Bool, IsTrue, Contains, AllPairs}
use Rattle.guppy_packages.specs.Tables.{Tables}
use Rattle.guppy_packages.specs.declared.direction.DependencyDirection.{DependencyDirection}
use Rattle.guppy_packages.specs.declared.direction.DependencyDirection.TheVariants.{Forward, Reverse}
use Rattle.feature_edges.specs.Candidates.{Edge, Candidate}
pub use Rattle.guppy_support.specs.Reaches.{Along, nowhere, onward, ReachAlong}

-- Some candidate leads from `u` to `w`.
abbrev pub HasCandidate : Tables → ℕ → ℕ → Type 0
HasCandidate t u w = ∥ ((e : Edge) × Candidate t u w e) ∥₁

-- Sorted by source and then by target.
abbrev pub IsBefore : ℕ × ℕ → ℕ × ℕ → Type 0
IsBefore a b = (a.0 < b.0) ⊎ ((a.0 ≡ b.0) × (a.1 < b.1))

-- `pairs` are exactly the pairs that have a candidate, ascending.
pub record IsPairList (t : Tables) (pairs : List (ℕ × ℕ)) : Type 0 where
  pub ascends : AllPairs IsBefore pairs
  pub exact : (u w : ℕ) → Contains pairs (u, w) ↔ HasCandidate t u w

-- One of `pairs` leads from `u` to `w` in this direction.
abbrev pub PairLeads : List (ℕ × ℕ) → DependencyDirection → ℕ → ℕ → Type 0
PairLeads pairs Forward u w = Contains pairs (u, w)
PairLeads pairs Reverse u w = Contains pairs (w, u)

-- An edge leads from `u` to `w` in this direction.
abbrev pub LeadsTo : Tables → DependencyDirection → ℕ → ℕ → Type 0
LeadsTo t Forward u w = HasCandidate t u w
LeadsTo t Reverse u w = HasCandidate t w u

-- The reach over all edges.
abbrev pub Reach : Tables → DependencyDirection → (ℕ → Bool) → ℕ → Type 0
Reach t direction initials w = ReachAlong (LeadsTo t direction) initials w
