-- Counts of the remaining edges for each component and for each node.
use Rattle.std.specs.Prelude.{◌≡◌, ℕ, zero, suc, ◌+◌, ◌<◌, Bool, false, cond, ◌&&◌, ◌==◌, not, List, length, map, slice_index, slice_index_or}
use Rattle.digraphs.specs.declared.digraph.Edge.{Edge}
use Rattle.digraphs.specs.Graph.{sources, targets}

-- The number of `k` below `n` that pass the test.
abbrev pub count_below : (ℕ → Bool) → ℕ → ℕ
count_below test zero = 0
count_below test (suc n) = cond (test n) 1 0 + count_below test n

-- Each count `c` is the number of `i` below `n` that are left and count for `c`.
abbrev pub IsTally : List ℕ → ℕ → (ℕ → Bool) → (ℕ → ℕ → Bool) → Type 0
IsTally counts n left test = (c : ℕ) → c < length counts → slice_index counts c ≡ count_below (λ i. left i && test c i) n

-- Edge `i` leads from another component into the one of rank `c`.
abbrev pub enters : List Edge → List ℕ → ℕ → ℕ → Bool
enters es ranks c i = (slice_index ranks (slice_index (targets es) i) == c) && not (slice_index ranks (slice_index (sources es) i) == c)

-- Edge `i` holds `v`: it isn't dev-only, and leads to `v` from another node of its component.
abbrev pub holds : List Edge → List ℕ → ℕ → ℕ → Bool
holds es ranks v i =
    (slice_index_or (map (λ e. e.non_dev) es) i false && (slice_index (targets es) i == v))
    && ((slice_index ranks (slice_index (sources es) i) == slice_index ranks v) && not (slice_index (sources es) i == v))
