-- The edges that wait for a gate, in one list.
use Rattle.std.specs.Prelude.{◌≡◌, ℕ, ◌<◌, ◌≤◌, ◌+◌, ◌==◌, ◌⊎◌, ◌↔◌, List, [], ◌∷◌, ◌++◌, Option, Some, None, map, filter, length, slice_get, slice_index_or, AllPairs, Contains}
use Rattle.std.specs.Option.{option_map_or}
use Rattle.digraphs.specs.Graph.{Graph}
use Rattle.feature_edges.specs.guppy_packages.declared.direction.DependencyDirection.{DependencyDirection}
use Rattle.feature_edges.specs.guppy_packages.declared.direction.DependencyDirection.TheVariants.{Forward, Reverse}
use Rattle.feature_edges.specs.feature_links.Facts.{EdgeFacts}
use Rattle.feature_edges.specs.Pairs.{IsBefore}
use Rattle.feature_core.specs.Ways.{gate_of, GatesAreNodes}

-- `released` has the gate and the number of each weak edge, ascending.
pub record AreReleases (facts : List EdgeFacts) (weak : List (ℕ × ℕ)) (released : List (ℕ × ℕ)) : Type 0 where
  pub ascends : AllPairs IsBefore released
  pub exact : (gate e : ℕ) → Contains released (gate, e) ↔ ((f : EdgeFacts) × (slice_get facts e ≡ Some f) × (gate_of weak f ≡ Some gate))

-- The parts of a feature graph that a walk reads belong together.
pub record AreTied (g : Graph) (facts : List EdgeFacts) (weak : List (ℕ × ℕ)) (released : List (ℕ × ℕ)) : Type 0 where
  pub each : length facts ≡ length g.edges
  pub gates : GatesAreNodes g.nodes weak
  pub releases : AreReleases facts weak released

-- The numbers with this gate.
abbrev pub released_by : ℕ → List (ℕ × ℕ) → List ℕ
released_by gate released = map (λ r. r.1) (filter (λ r. r.0 == gate) released)

-- The number at a place among those that wait for a gate.
abbrev pub released_place : List (ℕ × ℕ) → DependencyDirection → ℕ → ℕ → Option ℕ
released_place released Forward gate place = slice_get (released_by gate released) place
released_place released Reverse gate place = None

-- `first` is the index of the first entry whose gate is at least `gate`.
pub record Begins (gate first : ℕ) (rs : List (ℕ × ℕ)) : Type 0 where
  pub before : (k : ℕ) (d : ℕ × ℕ) → k < first → (slice_index_or rs k d).0 < gate
  pub after : (k : ℕ) (d : ℕ × ℕ) → first ≤ k → k < length rs → gate ≤ (slice_index_or rs k d).0

-- Sorted by gate and then by number; a pair may be repeated.
abbrev pub IsUpTo : ℕ × ℕ → ℕ × ℕ → Type 0
IsUpTo a b = (a.0 < b.0) ⊎ ((a.0 ≡ b.0) × (a.1 ≤ b.1))

-- The gate and the number of each weak edge, by number, from `n` on.
abbrev pub releases_from : List (ℕ × ℕ) → ℕ → List EdgeFacts → List (ℕ × ℕ)
releases_from weak n [] = []
releases_from weak n (f ∷ fs) = option_map_or (λ gate. (gate, n) ∷ []) (gate_of weak f) [] ++ releases_from weak (n + 1) fs
