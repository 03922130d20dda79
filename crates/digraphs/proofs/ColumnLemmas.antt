-- Edges in columns.
use Rattle.std.proofs.Common.{◌≡◌, ℕ, zero, suc, ◌+◌, ◌*◌, ◌/◌, ◌%◌, ◌<◌, ◌≤◌, true, false, Bool, List, [], ◌∷◌, ◌++◌, length, get_or, refl, ap, arith, Some, slice_get}
use Rattle.std.specs.Int.{from_bool}
use Rattle.digraphs.specs.inner.EdgeColumns.{edge_of, edges_in}

pub length_edges_in : (ss es : List ℕ) → length ss ≡ length es → length (edges_in ss es) ≡ length ss
length_edges_in [] es h = refl
length_edges_in (s ∷ ss) [] h = absurd (omega arith)
length_edges_in (s ∷ ss) (e ∷ es) h = ap suc (length_edges_in ss es (omega arith))

-- Edge `k` of the columns is encoded by element `k` of each.
pub edge_in_columns : (ss es : List ℕ) (k : ℕ) → length ss ≡ length es → k < length ss → slice_get (edges_in ss es) k ≡ Some (edge_of (get_or ss k 0) (get_or es k 0))
edge_in_columns [] es k h l = absurd (omega arith)
edge_in_columns (s ∷ ss) [] k h l = absurd (omega arith)
edge_in_columns (s ∷ ss) (e ∷ es) zero h l = refl
edge_in_columns (s ∷ ss) (e ∷ es) (suc k) h l = edge_in_columns ss es k (omega arith) (omega arith)

-- Encoding an edge and decoding it returns the same edge.
pub one_edge : (from to : ℕ) (firm : Bool) → edge_of from (2 * to + from_bool firm) ≡ record { from = from; to = to; non_dev = firm }
one_edge from to true =
    let half : (2 * to + 1) / 2 ≡ to = omega arith in
    let odd : (2 * to + 1) % 2 ≡ 1 = omega arith in
    rw (half, odd) refl
one_edge from to false =
    let half : (2 * to + 0) / 2 ≡ to = omega arith in
    let even : (2 * to + 0) % 2 ≡ 0 = omega arith in
    rw (half, even) refl

-- Appending to both columns appends the edge.
pub edges_in_more : (ss es : List ℕ) (s e : ℕ) → length ss ≡ length es → edges_in (ss ++ s ∷ []) (es ++ e ∷ []) ≡ edges_in ss es ++ edge_of s e ∷ []
edges_in_more [] [] s e h = refl
edges_in_more [] (f ∷ es) s e h = absurd (omega arith)
edges_in_more (t ∷ ss) [] s e h = absurd (omega arith)
edges_in_more (t ∷ ss) (f ∷ es) s e h = ap (λ z. edge_of t f ∷ z) (edges_in_more ss es s e (omega arith))

pub one_bit : (b : Bool) → from_bool b ≤ 1
one_bit true = omega arith
one_bit false = omega arith
