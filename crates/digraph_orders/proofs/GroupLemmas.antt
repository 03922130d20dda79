-- The head of a component, from its row.
use Rattle.std.proofs.Common.{◌≡◌, ℕ, zero, suc, ◌<◌, ◌≤◌, inl, inr, Bool, true, false, List, [], ◌∷◌, length, get_or, refl, sym, ◌∙◌, arith}
use Rattle.std.proofs.lemmas.Bool.{cases_eq, cases_lt}
use Rattle.std.proofs.lemmas.Bool.Decides.{eqb_tells}
use Rattle.std.proofs.lemmas.List.{get_or_past}
use Rattle.digraphs.specs.Rows.{places_from, places}
use Rattle.digraph_orders.proofs.PlaceLemmas.{places_within}
use Rattle.digraphs.specs.Bits.{has}
use Rattle.digraph_orders.specs.inner.Groups.{HaveOthers, IsAlone}
use Rattle.digraph_orders.specs.inner.Heads.{IsDone, IsHead}
use Rattle.digraph_orders.specs.inner.Plans.{is_in, IsFirst, IsBegun, RowWaits}
use Rattle.digraph_orders.proofs.RowLemmas.{has_place}

at_least : (v s : ℕ) (xs : List ℕ) (k : ℕ) → k < length (places_from v s xs) → s ≤ get_or (places_from v s xs) k 0
at_least v s [] k h = absurd (omega arith)
at_least v s (x ∷ xs) k h =
    elim (eqb_tells x v) [
      | inl t ↦ let h' : k < length (s ∷ places_from v (suc s) xs) = rw t.0 at h in rw t.0 (first s (places_from v (suc s) xs) (at_least v (suc s) xs) k h')
      | inr t ↦ let h' : k < length (places_from v (suc s) xs) = rw t.0 at h in rw t.0 (omega (arith, at_least v (suc s) xs k h'))
    ]
  where
    first : (s : ℕ) (rest : List ℕ) → ((k : ℕ) → k < length rest → suc s ≤ get_or rest k 0) → (k : ℕ) → k < length (s ∷ rest) → s ≤ get_or (s ∷ rest) k 0
    first s rest f zero h = omega arith
    first s rest f (suc k) h = omega (arith, f k (omega arith))

rising_first : (s : ℕ) (rest : List ℕ) → ((k : ℕ) → k < length rest → suc s ≤ get_or rest k 0) → ((i j : ℕ) → i < j → j < length rest → get_or rest i 0 < get_or rest j 0)
    → (i j : ℕ) → i < j → j < length (s ∷ rest) → get_or (s ∷ rest) i 0 < get_or (s ∷ rest) j 0
rising_first s rest f r i zero l h = absurd (omega arith)
rising_first s rest f r zero (suc j) l h = omega (arith, f j (omega arith))
rising_first s rest f r (suc i) (suc j) l h = r i j (omega arith) (omega arith)

pub rising : (v s : ℕ) (xs : List ℕ) (i j : ℕ) → i < j → j < length (places_from v s xs) → get_or (places_from v s xs) i 0 < get_or (places_from v s xs) j 0
rising v s [] i j l h = absurd (omega arith)
rising v s (x ∷ xs) i j l h =
    elim (eqb_tells x v) [
      | inl t ↦
          let h' : j < length (s ∷ places_from v (suc s) xs) = rw t.0 at h in
          rw t.0 (rising_first s (places_from v (suc s) xs) (at_least v (suc s) xs) (rising v (suc s) xs) i j l h')
      | inr t ↦ let h' : j < length (places_from v (suc s) xs) = rw t.0 at h in rw t.0 (rising v (suc s) xs i j l h')
    ]

has_at : (row : List ℕ) (x : ℕ) → is_in x row ≡ true → (k : ℕ) × (k < length row) × (get_or row k 0 ≡ x)
has_at [] x h = absurd (let c : true ≡ false = sym h in cc)
has_at (y ∷ ys) x h =
    elim (eqb_tells y x) [
      | inl t ↦ (0, omega arith, t.1)
      | inr t ↦ let h' : is_in x ys ≡ true = rw t.0 at h in let f = has_at ys x h' in (suc f.0, omega (arith, f.1), f.2)
    ]

-- Each node of rank `c` is in row `c`.
pub row_complete : (ranks : List ℕ) (c u : ℕ) → u < length ranks → get_or ranks u 0 ≡ c → (k : ℕ) × (k < length (places c ranks)) × (get_or (places c ranks) k 0 ≡ u)
row_complete ranks c u h e = has_at (places c ranks) u (has_place c 0 ranks u u h e (omega arith))

-- In a component with no node done, the first node without a hold, or else the first, is the head.
pub first_head : (n : ℕ) (ranks held : List ℕ) (done : List Bool) (c x : ℕ) → length ranks ≡ n → ((u : ℕ) → get_or ranks u 0 ≡ c → ¬ IsDone done u) → IsFirst (places c ranks) held x → (get_or ranks x 0 ≡ c) × IsHead n ranks held done x
first_head n ranks held done c x long fresh f =
    let w = places_within c ranks f.place f.within in
    let rank : get_or ranks x 0 ≡ c = rw f.is at w.1 in
    let lx : x < n = let l = w.0 in omega (arith, l, f.is, long) in
    -- A lesser node of the component has an earlier place.
    let earlier : (u : ℕ) → u < x → get_or ranks u 0 ≡ c → (j : ℕ) × (j < f.place) × (get_or (places c ranks) j 0 ≡ u) =
    λ u less e.
    let q = row_complete ranks c u (omega (arith, less, lx, long)) e in
    elim (cases_lt q.0 f.place) [
      | inl l ↦ (q.0, l, q.2)
      | inr ge ↦
          absurd (elim (cases_eq f.place q.0) [
            | inl same ↦ let e' : get_or (places c ranks) q.0 0 ≡ x = rw same at f.is in omega (arith, e', q.2, less)
            | inr ne ↦ let up = rising c 0 ranks f.place q.0 (omega (arith, ge, ne)) q.1 in omega (arith, up, f.is, q.2, less)
          ])
    ]
    in (
      rank,
      record {
        node = lx;
        fresh = fresh x rank;
        first = elim f.first [
          | inl free ↦ inl (free.0, λ u less fu e z. let q = earlier u less (e ∙ rank) in free.1 q.0 q.1 (rw (sym q.2) at z))
          | inr stuck ↦ inr (
            λ u lu fu e z. let q = row_complete ranks c u (omega (arith, long)) (e ∙ rank) in stuck.1 q.0 q.1 (rw (sym q.2) at z),
            λ u less fu e. let q = earlier u less (e ∙ rank) in omega (arith, q.1, stuck.0),
          )
        ];
      },
    )

-- A node that isn't among the others is alone.
pub others_alone : (ranks : List ℕ) (set : List Bool) → HaveOthers ranks (length ranks) set → (v : ℕ) → v < length ranks → has set v ≡ false → IsAlone ranks v
others_alone ranks set h v inside off =
    let own : get_or ranks v 0 ≡ v = elim (cases_eq (get_or ranks v 0) v) [
      | inl e ↦ e
      | inr ne ↦ absurd (let c : true ≡ false = sym ((h v inside ne).0) ∙ off in cc)
    ] in
    let only : (j : ℕ) → j < length (places v ranks) → get_or (places v ranks) j 0 ≡ v =
    λ j l.
    let w = places_within v ranks j l in
    elim (cases_eq (get_or ranks (get_or (places v ranks) j 0) 0) (get_or (places v ranks) j 0)) [
      | inl e ↦ sym e ∙ w.1
      | inr ne ↦ absurd (let other : has set v ≡ true = rw w.1 at (h (get_or (places v ranks) j 0) w.0 ne).1 in let c : true ≡ false = sym other ∙ off in cc)
    ]
    in
    record {
      rank = own;
      few = elim (cases_lt 1 (length (places v ranks))) [
        | inr le ↦ omega arith
        | inl more ↦ absurd (omega (arith, rising v 0 ranks 0 1 (omega arith) more, only 0 (omega (arith, more)), only 1 more))
      ];
    }

-- A component of one node.
module _ (ranks : List ℕ) (u : ℕ) (inside : u < length ranks) (a : IsAlone ranks u) where
  alone_at : (0 < length (places (get_or ranks u 0) ranks)) × (get_or (places (get_or ranks u 0) ranks) 0 0 ≡ u)
  alone_at =
      let q = row_complete ranks u u inside a.rank in
      let z : q.0 ≡ 0 = omega (arith, q.1, a.few) in
      rw a.rank (omega (arith, q.1), rw z at q.2)

  -- No other node has its rank.
  pub alone_only : (v : ℕ) → v < length ranks → get_or ranks v 0 ≡ u → v ≡ u
  alone_only v h e =
      let q = row_complete ranks u v h e in
      let z : q.0 ≡ 0 = omega (arith, q.1, a.few) in
      let at : get_or (places u ranks) 0 0 ≡ v = rw z at q.2 in
      let own : get_or (places u ranks) 0 0 ≡ u = rw a.rank at alone_at.1 in
      sym at ∙ own

  pub alone_first : (held : List ℕ) → IsFirst (places (get_or ranks u 0) ranks) held u
  alone_first held =
      record {
        place = 0;
        within = alone_at.0;
        is = alone_at.1;
        first = elim (cases_eq (get_or held u 0) 0) [
          | inl e ↦ inl (e, λ j l. absurd (omega (arith, l)))
          | inr ne ↦ inr (
            refl,
            λ j l z.
                let l' : j < length (places u ranks) = rw a.rank at l in
                let zj : j ≡ 0 = omega (arith, l', a.few) in
                ne (rw (zj, alone_at.1) at z),
          )
        ];
      }

  pub alone_waits : (held : List ℕ) → RowWaits (places (get_or ranks u 0) ranks) held u []
  alone_waits held =
      record {
        ready_all = λ j l z ne.
            let l' : j < length (places u ranks) = rw a.rank at l in
            absurd (let zj : j ≡ 0 = omega (arith, l', a.few) in ne (rw zj alone_at.1));
        ready_only = λ y h. absurd (omega (arith, h.1));
      }

-- If a component of one node has begun, that node is done.
pub alone_done : (ranks : List ℕ) (done : List Bool) (c : ℕ) → length ranks ≡ length done → IsAlone ranks c → IsBegun ranks done c → (j : ℕ) → j < length (places c ranks) → IsDone done (get_or (places c ranks) j 0)
alone_done ranks done c long a b j l =
    let inside : b.by < length done = elim (cases_lt b.by (length done)) [
      | inl h ↦ h
      | inr ge ↦ absurd (let past = get_or_past done b.by false ge in let t = b.marked in let x : true ≡ false = sym t ∙ past in cc)
    ] in
    let q = row_complete ranks c b.by (omega (arith, inside, long)) b.same in
    let same : q.0 ≡ j = omega (arith, q.1, l, a.few) in
    let at : get_or (places c ranks) j 0 ≡ b.by = rw same at q.2 in
    rw at b.marked
