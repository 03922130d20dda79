-- Rows of a list that ascends.
use Rattle.std.proofs.Common.{◌≡◌, ℕ, zero, suc, ◌+◌, ◌-◌, ◌<◌, ◌≤◌, inl, inr, List, [], ◌∷◌, length, get_or, refl, sym, ◌∙◌, arith, max}
use Rattle.std.proofs.lemmas.Bool.{cases_order, cases_lt, eq-eqb, ne_eqb, lt-ltb, le-ltb}
use Rattle.std.specs.List.{range_with_len}
use Rattle.std.proofs.lemmas.List.{length-map, get_or_read, ext_get_or}
use Rattle.std.proofs.lemmas.List.FromFn.{length-range_with_len, get_or-range_with_len}
use Rattle.digraphs.specs.declared.digraph.Edge.{Edge}
use Rattle.digraphs.specs.Graph.{Graph, IsDigraph, sources}
use Rattle.digraphs.specs.Rows.{places_from, places}
use Rattle.digraphs.specs.PackedRows.{below, AreBegun, AreAllBegun}
use Rattle.digraphs.proofs.FaultLemmas.{ascends}
use Rattle.digraphs.proofs.PackedLemmas.{below_more, below-le-length}

-- If exactly the elements before place `p` are below `u`, then `p` elements are below `u`.
pub below_at : (keys : List ℕ) (p u : ℕ) → p ≤ length keys → ((i : ℕ) → i < p → get_or keys i 0 < u) → ((i : ℕ) → p ≤ i → i < length keys → u ≤ get_or keys i 0) → below u keys ≡ p
below_at [] p u h before behind = omega arith
below_at (k ∷ keys) zero u h before behind =
    rw (le-ltb k u (behind 0 (omega arith) (omega arith))) (omega (arith, below_at keys 0 u (omega arith) (λ i l. absurd (omega arith)) (λ i g l. behind (suc i) (omega arith) (omega arith))))
below_at (k ∷ keys) (suc p) u h before behind =
    rw (lt-ltb k u (before 0 (omega arith))) (omega (arith, below_at keys p u (omega arith) (λ i l. before (suc i) (omega arith)) (λ i g l. behind (suc i) (omega arith) (omega arith))))

abbrev Rises : List ℕ → Type 0
Rises keys = (i j : ℕ) → i < j → j < length keys → get_or keys i 0 ≤ get_or keys j 0

none_there : (v s : ℕ) (keys : List ℕ) → ((i : ℕ) → i < length keys → v < get_or keys i 0) → length (places_from v s keys) ≡ 0
none_there v s [] h = refl
none_there v s (k ∷ keys) h = rw (ne_eqb k v (λ e. omega (arith, h 0 (omega arith), e))) (none_there v (suc s) keys (λ i l. h (suc i) (omega arith)))

-- In an ascending list the places of a number are consecutive, right after those of all smaller numbers.
rising_places : (v s : ℕ) (keys : List ℕ) → Rises keys → (j : ℕ) → j < length (places_from v s keys) → get_or (places_from v s keys) j 0 ≡ s + below v keys + j
rising_places v s [] r j h = absurd (omega arith)
rising_places v s (k ∷ keys) r j h =
    let rest : Rises keys = λ a b l lb. r (suc a) (suc b) (omega arith) (omega arith) in
    let above : (i : ℕ) → i < length keys → k ≤ get_or keys i 0 = λ i l. r 0 (suc i) (omega arith) (omega arith) in
    elim (cases_order k v) [
      | inl e ↦
          let b : below v keys ≡ 0 = below_at keys 0 v (omega arith) (λ i l. absurd (omega arith)) (λ i g l. omega (arith, above i l)) in
          let h' : j < length (s ∷ places_from v (suc s) keys) = rw (eq-eqb k v e) at h in
          rw (eq-eqb k v e, le-ltb k v (omega arith), b) (first s (places_from v (suc s) keys) (λ i l. omega (arith, rising_places v (suc s) keys rest i l, b)) j h')
      | inr o ↦
          elim o [
            | inl less ↦
                let h' : j < length (places_from v (suc s) keys) = rw (ne_eqb k v (λ e. omega arith)) at h in
                rw (ne_eqb k v (λ e. omega arith), lt-ltb k v less) (omega (arith, rising_places v (suc s) keys rest j h'))
            | inr more ↦
                let h' : j < length (places_from v (suc s) keys) = rw (ne_eqb k v (λ e. omega arith)) at h in
                absurd (omega (arith, none_there v (suc s) keys (λ i l. omega (arith, above i l)), h'))
          ]
    ]
  where
    first : (s : ℕ) (row : List ℕ) → ((i : ℕ) → i < length row → get_or row i 0 ≡ suc s + i) → (j : ℕ) → j < length (s ∷ row) → get_or (s ∷ row) j 0 ≡ s + (0 + 0) + j
    first s row e zero h = omega arith
    first s row e (suc j) h = omega (arith, e j (omega arith))

rises : (g : Graph) → IsDigraph g → Rises (sources g.edges)
rises g ok i j less l = (ascends g ok i j less (omega (arith, l, length-map g.edges (λ (e : Edge). e.from)))).by_first

-- `first..last` are the numbers of the edges that leave `v`.
pub record IsOutRange (g : Graph) (v first last : ℕ) : Type 0 where
  pub numbers : range_with_len first (last - first) ≡ places v (sources g.edges)
  pub ascends : first ≤ last
  pub within : last ≤ length g.edges

pub out_range : (g : Graph) → IsDigraph g → (begins : List ℕ) → AreAllBegun g.nodes (sources g.edges) begins → (v : ℕ) → v < g.nodes → (first last : ℕ) → first ≡ get_or begins v first → last ≡ get_or begins (v + 1) last → IsOutRange g v first last
out_range g ok begins all v h first last is_first is_last =
    let keys : List ℕ = sources g.edges in
    let lf : v < length begins = omega (arith, all.long, h) in
    let ll : v + 1 < length begins = omega (arith, all.long, h) in
    let low : first ≡ below v keys = get_or_read begins v first lf is_first 0 ∙ all.begun v lf in
    let high : last ≡ below (v + 1) keys = get_or_read begins (v + 1) last ll is_last 0 ∙ all.begun (v + 1) ll in
    let more = below_more v keys in
    let few = length-range_with_len first (last - first) in
    let long : length (range_with_len first (last - first)) ≡ length (places v keys) = omega arith in
    record {
      numbers = ext_get_or 0 (range_with_len first (last - first)) (places v keys) long
          (λ j lj.
          let inside : j < length (places v keys) = omega arith in
          let at : get_or (places v keys) j 0 ≡ 0 + below v keys + j = rising_places v 0 keys (rises g ok) j inside in
          let here = get_or-range_with_len first (last - first) j 0 (omega arith) in
          omega (arith, here, at, low));
      ascends = omega arith;
      within = omega (arith, high, below-le-length (v + 1) keys, length-map g.edges (λ (e : Edge). e.from));
    }

-- Appending begins that are all equal to `place` keeps every begin right.
pub begun_up : (keys begins more : List ℕ) (node place : ℕ) → AreBegun keys begins → place ≤ length keys → ((i : ℕ) → i < place → get_or keys i 0 < length begins) → ((i : ℕ) → place ≤ i → i < length keys → node ≤ get_or keys i 0)
    → length more ≡ max (length begins) (node + 1) → ((v : ℕ) → v < length begins → get_or more v 0 ≡ get_or begins v 0) → ((v : ℕ) → length begins ≤ v → v < length more → get_or more v 0 ≡ place) → AreBegun keys more
begun_up keys begins more node place begun h before behind long kept added v lv =
    elim (cases_lt v (length begins)) [
      | inl l ↦ kept v l ∙ begun v l
      | inr ge ↦
          let few : v ≤ node = omega (arith, lv, long, ge) in
          added v ge lv ∙ sym (below_at keys place v h (λ i l. omega (arith, before i l, ge)) (λ i g l. omega (arith, behind i g l, few)))
    ]
