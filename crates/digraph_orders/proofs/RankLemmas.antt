-- The rank of each mark: one of its nodes. The place of a mark in `firsts` is the mark minus a base.
use Rattle.std.proofs.Common.{◌≡◌, ◌≢◌, ℕ, ◌+◌, ◌-◌, ◌<◌, ◌≤◌, inl, inr, Bool, true, false, List, length, get_or, set, refl, ap, sym, ◌∙◌, arith, get_or-set_same, get_or-set_other}
use Rattle.std.proofs.lemmas.Bool.{cases_eq, cases_Bool}
use Rattle.digraphs.specs.Bits.{has}
use Rattle.digraph_orders.specs.inner.Groups.{HaveOthers}
use Rattle.digraph_orders.specs.inner.Ranks.{AreRanked}

-- The first nodes of the marks before and after node `k`, whose mark is at `place`.
module _ (base : ℕ) (marks firsts new : List ℕ) (k place x : ℕ) (at : get_or marks k 0 ≡ place + base) (small : place < length firsts) (found : x + 1 ≡ get_or new place 0)
    (known : get_or firsts place 0 ≢ 0 → new ≡ firsts) (added : get_or firsts place 0 ≡ 0 → new ≡ set firsts place (k + 1)) where
  stays : (c : ℕ) → get_or firsts c 0 ≢ 0 → get_or new c 0 ≡ get_or firsts c 0
  stays c some =
      elim (cases_eq (get_or firsts place 0) 0) [
        | inr ne ↦ ap (λ (f : List ℕ). get_or f c 0) (known ne)
        | inl z ↦ rw (added z) (get_or-set_other firsts place c (k + 1) 0 (λ e. some (rw e z)))
      ]

  pub known_next : ((c : ℕ) → get_or firsts c 0 ≢ 0 → (get_or firsts c 0 ≤ k) × (get_or marks (get_or firsts c 0 - 1) 0 ≡ c + base))
      → (c : ℕ) → get_or new c 0 ≢ 0 → (get_or new c 0 ≤ k + 1) × (get_or marks (get_or new c 0 - 1) 0 ≡ c + base)
  known_next old c some =
      let kept : get_or new c 0 ≡ get_or firsts c 0 → (get_or new c 0 ≤ k + 1) × (get_or marks (get_or new c 0 - 1) 0 ≡ c + base) =
      λ same.
      let o = old c (λ z. some (same ∙ z)) in
      rw same (omega (arith, o.0), o.1)
      in
      elim (cases_eq (get_or firsts place 0) 0) [
        | inr ne ↦ kept (ap (λ (f : List ℕ). get_or f c 0) (known ne))
        | inl z ↦
            elim (cases_eq c place) [
              | inr ne ↦ kept (rw (added z) (get_or-set_other firsts place c (k + 1) 0 ne))
              | inl e ↦
                  let here : get_or new c 0 ≡ k + 1 = rw (e, added z) (get_or-set_same firsts place (k + 1) 0 small) in
                  let q : k + 1 - 1 ≡ k = omega arith in
                  rw (here, q) (omega arith, omega (arith, at, e))
            ]
      ]

  pub first_next : (counts : ℕ → Type 0) (ranks : List ℕ) → k < length ranks → ((v : ℕ) → v < k → counts v → get_or ranks v 0 + 1 ≡ get_or firsts (get_or marks v 0 - base) 0)
      → (v : ℕ) → v < k + 1 → counts v → get_or (set ranks k x) v 0 + 1 ≡ get_or new (get_or marks v 0 - base) 0
  first_next counts ranks inside old v h is =
      elim (cases_eq v k) [
        | inl e ↦ let q : get_or marks k 0 - base ≡ place = omega (arith, at) in rw (e, get_or-set_same ranks k x 0 inside, q) found
        | inr ne ↦
            let o = old v (omega (arith, h, ne)) is in
            rw (get_or-set_other ranks k v x 0 ne) (o ∙ sym (stays (get_or marks v 0 - base) (λ z. omega (arith, o, z))))
      ]

-- A node that isn't in `several` is its rank. The others have the first node with their mark.
module _ (base : ℕ) (marks ranks firsts : List ℕ) (several : List Bool) (long : length ranks ≡ length marks) (low : (v : ℕ) → v < length marks → base ≤ get_or marks v 0)
    (alone : (v u : ℕ) → v < length marks → u < length marks → get_or marks v 0 ≡ get_or marks u 0 → has several v ≡ false → u ≡ v)
    (lone : (v : ℕ) → v < length marks → has several v ≡ false → get_or ranks v 0 ≡ v)
    (first : (v : ℕ) → v < length marks → has several v ≡ true → get_or ranks v 0 + 1 ≡ get_or firsts (get_or marks v 0 - base) 0)
    (known : (c : ℕ) → get_or firsts c 0 ≢ 0 → (get_or firsts c 0 ≤ length marks) × (get_or marks (get_or firsts c 0 - 1) 0 ≡ c + base)) where
  of_mark : (v : ℕ) → v < length marks → (get_or ranks v 0 < length marks) × (get_or marks (get_or ranks v 0) 0 ≡ get_or marks v 0)
  of_mark v h =
      elim (cases_Bool (has several v)) [
        | inr off ↦ rw (lone v h off) (h, refl)
        | inl on ↦
            let f = first v h on in
            let k = known (get_or marks v 0 - base) (λ z. omega (arith, f, z)) in
            let e : get_or firsts (get_or marks v 0 - base) 0 - 1 ≡ get_or ranks v 0 = omega (arith, f) in
            let at : get_or marks (get_or ranks v 0) 0 ≡ (get_or marks v 0 - base) + base = rw e at k.1 in
            (omega (arith, f, k.0), omega (arith, at, low v h))
      ]

  pub are_ranked : AreRanked marks ranks
  are_ranked =
      record {
        long = long;
        node = λ v h. (of_mark v h).0;
        kept = λ v h. (of_mark v h).1;
        one = λ a b la lb same.
            elim (cases_Bool (has several a)) [
              | inr off ↦ rw (alone a b la lb same off) refl
              | inl on ↦ elim (cases_Bool (has several b)) [
                | inr off ↦ rw (alone b a lb la (sym same) off) refl
                | inl too ↦ let fa = first a la on in let fb = first b lb too in let fa' : get_or ranks a 0 + 1 ≡ get_or firsts (get_or marks b 0 - base) 0 = rw same at fa in omega (arith, fa', fb)
              ]
            ];
      }

  pub have_others : HaveOthers ranks (length marks) several
  have_others v h ne =
      let q = of_mark v h in (
        elim (cases_Bool (has several v)) [ inl on ↦ on | inr off ↦ absurd (ne (lone v h off)) ],
        elim (cases_Bool (has several (get_or ranks v 0))) [ inl on ↦ on | inr off ↦ absurd (ne (sym (alone (get_or ranks v 0) v q.0 h q.1 off))) ],
      )
