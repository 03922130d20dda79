-- The table of releases, as it is built.
use Rattle.std.proofs.Common.{◌≡◌, ℕ, zero, suc, ◌+◌, ◌-◌, ◌<◌, ◌≤◌, ◌⊎◌, inl, inr, ⊎_elim, Bool, true, false, cond, List, [], ◌∷◌, ◌++◌, Option, Some, None, length, refl, sym, ◌∙◌, ap, subst, arith}
use Rattle.std.specs.Prelude.{◌==◌, ◌↔◌, slice_get, slice_index_or, Contains, AllPairs, IsPermutation, count_by, nat_lt}
use Rattle.std.specs.Ordering.{is_lt, nat_cmp, ordering_then}
use Rattle.std.specs.declared.cmp.Ordering.{Ordering}
use Rattle.std.specs.declared.cmp.Ordering.TheVariants.{Less, Equal, Greater}
use Rattle.std.proofs.lemmas.List.Kept.{AllPairs-cons}
use Rattle.std.proofs.lemmas.List.Sorted.{Contains-permutation, IsPermutation-sym, sum_by-IsPermutation}
use Rattle.std.proofs.lemmas.List.Sums.{sum_by-cons}
use Rattle.std.proofs.lemmas.Bool.{eqb-true, eq-eqb}
use Rattle.std.proofs.lemmas.Bool.Decides.{nat_tests}
use Rattle.feature_edges.specs.feature_links.Facts.{EdgeFacts}
use Rattle.feature_edges.specs.Pairs.{IsBefore}
use Rattle.feature_core.specs.Ways.{gate_of}
use Rattle.feature_core.specs.inner.Releases.{releases_from, IsUpTo, AreReleases}
use Rattle.feature_core.proofs.Answered.{decide, clash}
use Rattle.feature_core.proofs.Released.{Contains-first, Contains-later, Contains-cases, none_contained, AllPairs-first, AllPairs-later}

pair_same : (a b c d : ℕ) → a ≡ c → b ≡ d → ◌≡◌ {A = ℕ × ℕ} (a, b) (c, d)
pair_same a b c d p q = cc

-- edge `e`, counted from `n` on, has this gate
abbrev HasGate : List (ℕ × ℕ) → ℕ → List EdgeFacts → ℕ → ℕ → Type 0
HasGate weak n fs gate e = (i : ℕ) × (e ≡ n + i) × ((f : EdgeFacts) × (slice_get fs i ≡ Some f) × (gate_of weak f ≡ Some gate))

gate_later : (weak : List (ℕ × ℕ)) (n : ℕ) (f : EdgeFacts) (fs : List EdgeFacts) (gate e : ℕ) → HasGate weak (n + 1) fs gate e → HasGate weak n (f ∷ fs) gate e
gate_later weak n f fs gate e (i, is, h) = (suc i, omega arith, h)

abbrev put : ℕ → Option ℕ → List (ℕ × ℕ)
put n None = []
put n (Some gate) = (gate, n) ∷ []

releases_put : (weak : List (ℕ × ℕ)) (n : ℕ) (f : EdgeFacts) (fs : List EdgeFacts) (o : Option ℕ) → gate_of weak f ≡ o → releases_from weak n (f ∷ fs) ≡ put n o ++ releases_from weak (n + 1) fs
releases_put weak n f fs None e = rw e refl
releases_put weak n f fs (Some gate) e = rw e refl

module _ (weak : List (ℕ × ℕ)) where
  has_gate_put : (n : ℕ) (f : EdgeFacts) (fs : List EdgeFacts) (gate e : ℕ) (o : Option ℕ) → gate_of weak f ≡ o → (Contains (releases_from weak (n + 1) fs) (gate, e) → HasGate weak (n + 1) fs gate e) → Contains (put n o ++ releases_from weak (n + 1) fs) (gate, e) → HasGate weak n (f ∷ fs) gate e
  has_gate_put n f fs gate e None is later h = gate_later weak n f fs gate e (later h)
  has_gate_put n f fs gate e (Some g) is later h = ⊎_elim
      (λ (q : (g, n) ≡ (gate, e)). (0, omega (arith, ap (λ p. p.1) q), (f, refl, is ∙ ap (λ p. Some p.0) q)))
      (λ (q : Contains (releases_from weak (n + 1) fs) (gate, e)). gate_later weak n f fs gate e (later q))
      (Contains-cases (g, n) (releases_from weak (n + 1) fs) (gate, e) h)

  -- each release belongs to an edge with the gate
  has_gate : (n : ℕ) (fs : List EdgeFacts) (gate e : ℕ) → Contains (releases_from weak n fs) (gate, e) → HasGate weak n fs gate e
  has_gate n [] gate e h = absurd (none_contained (gate, e) h)
  has_gate n (f ∷ fs) gate e h = has_gate_put n f fs gate e (gate_of weak f) refl (has_gate (n + 1) fs gate e)
      (subst (λ xs. Contains xs (gate, e)) (releases_put weak n f fs (gate_of weak f) refl) h)

  in_put : (n : ℕ) (rest : List (ℕ × ℕ)) (p : ℕ × ℕ) (o : Option ℕ) → Contains rest p → Contains (put n o ++ rest) p
  in_put n rest p None h = h
  in_put n rest p (Some g) h = Contains-later (g, n) rest p h

  first_put : (n : ℕ) (rest : List (ℕ × ℕ)) (gate e : ℕ) (o : Option ℕ) → o ≡ Some gate → e ≡ n → Contains (put n o ++ rest) (gate, e)
  first_put n rest gate e None h i = absurd (cc)
  first_put n rest gate e (Some g) h i =
      let same : g ≡ gate = cc in
      subst (λ (p : ℕ × ℕ). Contains ((g, n) ∷ rest) p) (pair_same g n gate e same (sym i)) (Contains-first (g, n) rest)

  -- each edge with a gate has a release
  has_release : (n : ℕ) (fs : List EdgeFacts) (gate e i : ℕ) (f : EdgeFacts) → e ≡ n + i → slice_get fs i ≡ Some f → gate_of weak f ≡ Some gate → Contains (releases_from weak n fs) (gate, e)
  has_release n [] gate e i f is at h = absurd (cc)
  has_release n (x ∷ fs) gate e zero f is at h =
      let same : x ≡ f = cc in
      subst (λ xs. Contains xs (gate, e)) (sym (releases_put weak n x fs (gate_of weak x) refl))
      (first_put n (releases_from weak (n + 1) fs) gate e (gate_of weak x) (ap (gate_of weak) same ∙ h) (omega arith))
  has_release n (x ∷ fs) gate e (suc i) f is at h =
      subst (λ xs. Contains xs (gate, e)) (sym (releases_put weak n x fs (gate_of weak x) refl))
      (in_put n (releases_from weak (n + 1) fs) (gate, e) (gate_of weak x) (has_release (n + 1) fs gate e i f (omega arith) at h))

  -- exactly the gates of edges
  pub exact_releases : (fs : List EdgeFacts) (gate e : ℕ) → Contains (releases_from weak 0 fs) (gate, e) ↔ ((f : EdgeFacts) × (slice_get fs e ≡ Some f) × (gate_of weak f ≡ Some gate))
  exact_releases fs gate e = (
    (λ h. let g = has_gate 0 fs gate e h in (g.2.0, subst (λ (k : ℕ). slice_get fs k ≡ Some g.2.0) (omega arith) g.2.1, g.2.2)),
    (λ h. has_release 0 fs gate e e h.0 (omega arith) h.1 h.2),
  )

-- the number of times that an edge's number is in the list
abbrev times : ℕ → List (ℕ × ℕ) → ℕ
times e rs = count_by (λ r. r.1 == e) rs

abbrev one : Bool → ℕ
one b = cond b 1 0

times_cons : (e : ℕ) (r : ℕ × ℕ) (rs : List (ℕ × ℕ)) → times e (r ∷ rs) ≡ one (r.1 == e) + times e rs
times_cons e r rs = sum_by-cons (λ (x : ℕ × ℕ). cond (x.1 == e) 1 0) r rs

one_same : (x e : ℕ) → x ≡ e → one (x == e) ≡ 1
one_same x e h = rw (eq-eqb x e h) refl

one_other : (x e : ℕ) → (x ≡ e → ⊥) → one (x == e) ≡ 0
one_other x e h = elim (decide (x == e)) [ inl q ↦ absurd (h (eqb-true x e q)) | inr q ↦ rw q refl ]

one_most : (b : Bool) → one b ≤ 1
one_most true = omega arith
one_most false = omega arith

module _ (weak : List (ℕ × ℕ)) where
  never_put : (n e : ℕ) (o : Option ℕ) (rest : List (ℕ × ℕ)) → e < n → times e rest ≡ 0 → times e (put n o ++ rest) ≡ 0
  never_put n e None rest l h = h
  never_put n e (Some g) rest l h = let a : times e ((g, n) ∷ rest) ≡ one (n == e) + times e rest = times_cons e (g, n) rest in let b : one (n == e) ≡ 0 = one_other n e (λ q. omega arith) in omega arith

  never_below : (n e : ℕ) (fs : List EdgeFacts) → e < n → times e (releases_from weak n fs) ≡ 0
  never_below n e [] l = refl
  never_below n e (f ∷ fs) l = rw (releases_put weak n f fs (gate_of weak f) refl) (never_put n e (gate_of weak f) (releases_from weak (n + 1) fs) l (never_below (n + 1) e fs (omega arith)))

  once_put : (n e : ℕ) (o : Option ℕ) (rest : List (ℕ × ℕ)) → times e rest ≤ 1 → (e < n + 1 → times e rest ≡ 0) → times e (put n o ++ rest) ≤ 1
  once_put n e None rest l h = l
  once_put n e (Some g) rest l h =
      let a : times e ((g, n) ∷ rest) ≡ one (n == e) + times e rest = times_cons e (g, n) rest in
      elim (decide (n == e)) [
        | inl q ↦ let same : n ≡ e = eqb-true n e q in let none : times e rest ≡ 0 = h (omega arith) in let b : one (n == e) ≤ 1 = one_most (n == e) in omega arith
        | inr q ↦ let b : one (n == e) ≡ 0 = one_other n e (λ p. clash (eq-eqb n e p) q) in omega arith
      ]

  at_most_once : (n e : ℕ) (fs : List EdgeFacts) → times e (releases_from weak n fs) ≤ 1
  at_most_once n e [] = omega arith
  at_most_once n e (f ∷ fs) = rw (releases_put weak n f fs (gate_of weak f) refl) (once_put n e (gate_of weak f) (releases_from weak (n + 1) fs) (at_most_once (n + 1) e fs) (λ l. never_below (n + 1) e fs l))

counted : (e : ℕ) (rs : List (ℕ × ℕ)) (r : ℕ × ℕ) → Contains rs r → r.1 ≡ e → 1 ≤ times e rs
counted e [] r h q = absurd (none_contained r h)
counted e (x ∷ rs) r h q =
    let a : times e (x ∷ rs) ≡ one (x.1 == e) + times e rs = times_cons e x rs in
    ⊎_elim
    (λ (s : x ≡ r). let b : one (x.1 == e) ≡ 1 = one_same x.1 e (ap (λ p. p.1) s ∙ q) in omega arith)
    (λ (s : Contains rs r). let b : 1 ≤ times e rs = counted e rs r s q in omega arith)
    (Contains-cases x rs r h)

up_before : (r y : ℕ × ℕ) → IsUpTo r y → (r.1 ≡ y.1 → ⊥) → IsBefore r y
up_before r y (inl h) ne = inl h
up_before r y (inr h) ne = inr (h.0, omega arith)

index_same : (rs : List (ℕ × ℕ)) (k : ℕ) (a b : ℕ × ℕ) → k < length rs → slice_index_or rs k b ≡ slice_index_or rs k a
index_same [] k a b l = absurd (omega arith)
index_same (r ∷ rs) zero a b l = refl
index_same (r ∷ rs) (suc k) a b l = index_same rs k a b (omega arith)

contains_at : (rs : List (ℕ × ℕ)) (k : ℕ) (d : ℕ × ℕ) → k < length rs → Contains rs (slice_index_or rs k d)
contains_at rs k d l = (k, l, index_same rs k d (slice_index_or rs k d) l)

-- an ordered list with each number at most once ascends
strictly : (rs : List (ℕ × ℕ)) → AllPairs IsUpTo rs → ((e : ℕ) → times e rs ≤ 1) → AllPairs IsBefore rs
strictly [] o h = λ i j d l m. absurd (omega arith)
strictly (r ∷ rs) o h =
    AllPairs-cons IsBefore r rs
    (λ k d l.
    let y : ℕ × ℕ = slice_index_or rs k d in
    let one_here : one (r.1 == r.1) ≡ 1 = one_same r.1 r.1 refl in
    let a : times r.1 (r ∷ rs) ≡ one (r.1 == r.1) + times r.1 rs = times_cons r.1 r rs in
    let most : times r.1 (r ∷ rs) ≤ 1 = h r.1 in
    up_before r y (AllPairs-first IsUpTo r rs o k d l) (λ q. let b : 1 ≤ times r.1 rs = counted r.1 rs y (contains_at rs k d l) (sym q) in omega arith))
    (strictly rs (AllPairs-later IsUpTo r rs o) (λ e. let a : times e (r ∷ rs) ≡ one (r.1 == e) + times e rs = times_cons e r rs in let most : times e (r ∷ rs) ≤ 1 = h e in omega arith))

lex : (l e : Bool) (o : Ordering) → is_lt (ordering_then (cond l Less (cond e Equal Greater)) o) ≡ false → (l ≡ false) × ((e ≡ false) ⊎ (is_lt o ≡ false))
lex true e o h = cc
lex false true o h = (refl, inr h)
lex false false o h = (refl, inl refl)

not_less : (l e : Bool) → is_lt (cond l Less (cond e Equal Greater)) ≡ false → l ≡ false
not_less true e h = cc
not_less false e h = refl

up_to : (x y : ℕ) → nat_lt x y ≡ false → y ≤ x
up_to x y h = grind (arith, nat_tests)

apart : (x y : ℕ) → y ≤ x → (x == y) ≡ false → y < x
apart x y h e = grind (arith, nat_tests)

below_or : (x y : ℕ) → y ≤ x → (y < x) ⊎ (y ≡ x)
below_or x y h = grind arith

-- `b` isn't less than `a`
pub up_from : (a b : ℕ × ℕ) → is_lt (ordering_then (nat_cmp b.0 a.0) (nat_cmp b.1 a.1)) ≡ false → IsUpTo a b
up_from a b h =
    let k : (nat_lt b.0 a.0 ≡ false) × (((b.0 == a.0) ≡ false) ⊎ (is_lt (nat_cmp b.1 a.1) ≡ false)) = lex (nat_lt b.0 a.0) (b.0 == a.0) (nat_cmp b.1 a.1) h in
    let up : a.0 ≤ b.0 = up_to b.0 a.0 k.0 in
    ⊎_elim
    (λ e. inl (apart b.0 a.0 up e))
    (λ e. ⊎_elim (λ (z : a.0 < b.0). inl z) (λ (z : a.0 ≡ b.0). inr (z, up_to b.1 a.1 (not_less (nat_lt b.1 a.1) (b.1 == a.1) e))) (below_or b.0 a.0 up))
    k.1

-- the ordered table
pub are_releases : (fs : List EdgeFacts) (weak made sorted : List (ℕ × ℕ)) → made ≡ releases_from weak 0 fs → IsPermutation made sorted → AllPairs IsUpTo sorted → AreReleases fs weak sorted
are_releases fs weak made sorted is moved up = record {
  ascends = strictly sorted up (λ e. let same : times e sorted ≡ times e made = sum_by-IsPermutation (λ (x : ℕ × ℕ). cond (x.1 == e) 1 0) made sorted moved in let most : times e made ≤ 1 = subst (λ rs. times e rs ≤ 1) (sym is) (at_most_once weak 0 e fs) in omega arith);
  exact = λ gate e.
      let exact = exact_releases weak fs gate e in (
        (λ h. exact.0 (subst (λ rs. Contains rs (gate, e)) is (Contains-permutation sorted made (gate, e) (IsPermutation-sym made sorted moved) h))),
        (λ h. Contains-permutation made sorted (gate, e) moved (subst (λ rs. Contains rs (gate, e)) (sym is) (exact.1 h))),
      );
}

up_on : (a b c : ℕ × ℕ) → IsUpTo a b → IsUpTo b c → IsUpTo a c
up_on a b c (inl p) (inl q) = inl (omega arith)
up_on a b c (inl p) (inr q) = inl (omega arith)
up_on a b c (inr p) (inl q) = inl (omega arith)
up_on a b c (inr p) (inr q) = inr (omega arith, omega arith)

module _ (rs : List (ℕ × ℕ)) (next : (k : ℕ) (d : ℕ × ℕ) → k + 1 < length rs → IsUpTo (slice_index_or rs k d) (slice_index_or rs (k + 1) d)) where
  far : (i g j : ℕ) (d : ℕ × ℕ) → j ≡ i + suc g → j < length rs → IsUpTo (slice_index_or rs i d) (slice_index_or rs j d)
  far i zero j d e l = subst (λ (z : ℕ). IsUpTo (slice_index_or rs i d) (slice_index_or rs z d)) (omega arith) (next i d (omega arith))
  far i (suc g) j d e l =
      let m : ℕ = i + suc g in
      let step : IsUpTo (slice_index_or rs m d) (slice_index_or rs j d) = subst (λ (z : ℕ). IsUpTo (slice_index_or rs m d) (slice_index_or rs z d)) (omega arith) (next m d (omega arith)) in
      up_on (slice_index_or rs i d) (slice_index_or rs m d) (slice_index_or rs j d) (far i g m d refl (omega arith)) step

  pub all_up : AllPairs IsUpTo rs
  all_up i j d l m = far i (j - suc i) j d (omega arith) m
