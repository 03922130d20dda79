-- Counts of the remaining edges.
use Rattle.std.proofs.Common.{◌≡◌, ◌≢◌, ℕ, zero, suc, ◌+◌, ◌<◌, inl, inr, Bool, true, false, ◌&&◌, List, length, get_or, set, refl, sym, ◌∙◌, arith, get_or-set_same, get_or-set_other}
use Rattle.std.proofs.Math.ListN.{length-set}
use Rattle.std.proofs.lemmas.Bool.{cases_eq, cases_Bool}
use Rattle.digraph_orders.specs.inner.Counts.{count_below, IsTally}

pub count_same : (t s : ℕ → Bool) (n : ℕ) → ((i : ℕ) → i < n → t i ≡ s i) → count_below t n ≡ count_below s n
count_same t s zero e = refl
count_same t s (suc n) e = rw (e n (omega arith), count_same t s n (λ i h. e i (omega arith))) refl

pub count_fewer : (t s : ℕ → Bool) (n p : ℕ) → p < n → t p ≡ true → s p ≡ false → ((i : ℕ) → i ≢ p → t i ≡ s i) → count_below t n ≡ suc (count_below s n)
count_fewer t s zero p h tp sp e = absurd (omega arith)
count_fewer t s (suc n) p h tp sp e =
    elim (cases_eq p n) [
      | inl is ↦
          let tn : t n ≡ true = rw is at tp in
          let sn : s n ≡ false = rw is at sp in
          rw (tn, sn, count_same t s n (λ i l. e i (λ q. omega (arith, q, is)))) (omega arith)
      | inr ne ↦
          let rest = count_fewer t s n p (omega arith) tp sp e in
          rw (e n (λ q. ne (sym q)), rest) (omega arith)
    ]

pub count_none : (t : ℕ → Bool) (n : ℕ) → count_below t n ≡ 0 → (i : ℕ) → i < n → t i ≡ false
count_none t zero z i h = absurd (omega arith)
count_none t (suc n) z i h =
    elim (cases_Bool (t n)) [
      | inl yes_n ↦ absurd (let z' : 1 + count_below t n ≡ 0 = rw yes_n at z in omega arith)
      | inr no_n ↦
          let z' : 0 + count_below t n ≡ 0 = rw no_n at z in
          elim (cases_eq i n) [
            | inl is ↦ rw is no_n
            | inr ne ↦ count_none t n (omega arith) i (omega arith)
          ]
    ]

pub count_some : (t : ℕ → Bool) (n : ℕ) → count_below t n ≢ 0 → (i : ℕ) × (i < n) × (t i ≡ true)
count_some t zero z = absurd (z refl)
count_some t (suc n) z =
    elim (cases_Bool (t n)) [
      | inl yes_n ↦ (n, omega arith, yes_n)
      | inr no_n ↦
          let f = count_some t n (λ e. z (rw (no_n, e) refl)) in
          (f.0, omega (arith, f.1), f.2)
    ]

pub count_zero : (t : ℕ → Bool) (n : ℕ) → ((i : ℕ) → i < n → t i ≡ false) → count_below t n ≡ 0
count_zero t zero f = refl
count_zero t (suc n) f = rw (f n (omega arith), count_zero t n (λ i h. f i (omega arith))) refl

and_off : (x : Bool) → (x && false) ≡ false
and_off true = refl
and_off false = refl

both_off : (x y : Bool) → (x && false) ≡ (y && false)
both_off x y = and_off x ∙ sym (and_off y)

-- The counts are right as long as the same edges are left.
pub tally_same : (counts : List ℕ) (n : ℕ) (left next : ℕ → Bool) (test : ℕ → ℕ → Bool) → ((i : ℕ) → i < n → next i ≡ left i) → IsTally counts n left test → IsTally counts n next test
tally_same counts n left next test e t c h = t c h ∙ count_same (λ i. left i && test c i) (λ i. next i && test c i) n (λ i l. rw (e i l) refl)

-- Removing an edge that counts for nothing keeps the counts right.
pub tally_skip : (counts : List ℕ) (n : ℕ) (left next : ℕ → Bool) (test : ℕ → ℕ → Bool) (p : ℕ) → ((c : ℕ) → c < length counts → test c p ≡ false) → ((i : ℕ) → i ≢ p → next i ≡ left i)
    → IsTally counts n left test → IsTally counts n next test
tally_skip counts n left next test p off e t c h =
    t c h ∙ count_same (λ i. left i && test c i) (λ i. next i && test c i) n
    (λ i l. elim (cases_eq i p) [
      | inl is ↦ let off' : test c i ≡ false = rw (sym is) at (off c h) in rw off' (both_off (left i) (next i))
      | inr ne ↦ rw (e i ne) refl
    ])

-- Removing an edge that counts only for `d` takes one from its count.
pub tally_pass : (counts : List ℕ) (n : ℕ) (left next : ℕ → Bool) (test : ℕ → ℕ → Bool) (p d : ℕ) → p < n → d < length counts → left p ≡ true → next p ≡ false → test d p ≡ true
    → ((c : ℕ) → c ≢ d → test c p ≡ false) → ((i : ℕ) → i ≢ p → next i ≡ left i)
    → IsTally counts n left test → (0 < get_or counts d 0) × ((k : ℕ) → k + 1 ≡ get_or counts d 0 → IsTally (set counts d k) n next test)
tally_pass counts n left next test p d lp ld on off here others e t =
    let fewer : count_below (λ i. left i && test d i) n ≡ suc (count_below (λ i. next i && test d i) n) =
    count_fewer (λ i. left i && test d i) (λ i. next i && test d i) n p lp (rw (on, here) refl) (rw off refl) (λ i ne. rw (e i ne) refl)
    in
    let is = t d ld in (
      omega (arith, fewer, is),
      λ k ek c h.
          elim (cases_eq c d) [
            | inl same ↦ rw (same, get_or-set_same counts d k 0 ld) (omega (arith, fewer, is, ek))
            | inr ne ↦
                rw (get_or-set_other counts d c k 0 ne)
                (tally_skip_at c (omega (arith, h, length-set counts d k)) ne)
          ],
    )
  where
    tally_skip_at : (c : ℕ) → c < length counts → c ≢ d → get_or counts c 0 ≡ count_below (λ i. next i && test c i) n
    tally_skip_at c h ne =
        t c h ∙ count_same (λ i. left i && test c i) (λ i. next i && test c i) n
        (λ i l. elim (cases_eq i p) [
          | inl is ↦ let off' : test c i ≡ false = rw (sym is) at (others c ne) in rw off' (both_off (left i) (next i))
          | inr other ↦ rw (e i other) refl
        ])

-- Adding an edge that counts only for `d` adds one to its count.
pub tally_add : (counts : List ℕ) (n : ℕ) (left next : ℕ → Bool) (test : ℕ → ℕ → Bool) (p d : ℕ) → p < n → d < length counts → left p ≡ false → next p ≡ true → test d p ≡ true
    → ((c : ℕ) → c ≢ d → test c p ≡ false) → ((i : ℕ) → i ≢ p → next i ≡ left i)
    → IsTally counts n left test → IsTally (set counts d (get_or counts d 0 + 1)) n next test
tally_add counts n left next test p d lp ld off on here others e t c h =
    elim (cases_eq c d) [
      | inl same ↦
          let fewer : count_below (λ i. next i && test d i) n ≡ suc (count_below (λ i. left i && test d i) n) =
          count_fewer (λ i. next i && test d i) (λ i. left i && test d i) n p lp (rw (on, here) refl) (rw off refl) (λ i ne. rw (e i ne) refl)
          in
          let is = t d ld in
          rw (same, get_or-set_same counts d (get_or counts d 0 + 1) 0 ld) (omega (arith, fewer, is))
      | inr ne ↦
          rw (get_or-set_other counts d c (get_or counts d 0 + 1) 0 ne)
          (t c (omega (arith, h, length-set counts d (get_or counts d 0 + 1)))
          ∙ count_same (λ i. left i && test c i) (λ i. next i && test c i) n
          (λ i l. elim (cases_eq i p) [
            | inl is ↦ let off' : test c i ≡ false = rw (sym is) at (others c ne) in rw off' (both_off (left i) (next i))
            | inr other ↦ rw (e i other) refl
          ]))
    ]

-- If no edge is left, the counts are 0.
pub tally_none : (counts : List ℕ) (n : ℕ) (test : ℕ → ℕ → Bool) → ((c : ℕ) → c < length counts → get_or counts c 0 ≡ 0) → IsTally counts n (λ i. false) test
tally_none counts n test z c h = z c h ∙ sym (count_zero (λ i. false && test c i) n (λ i l. refl))

pub count_full : (t : ℕ → Bool) (n : ℕ) → ((i : ℕ) → i < n → t i ≡ true) → count_below t n ≡ n
count_full t zero e = refl
count_full t (suc n) e = rw (e n (omega arith), count_full t n (λ i h. e i (omega arith))) (omega arith)
