-- Each step of an explanation ends the explanation of its node: the steps are read backwards from the last.
use Rattle.std.proofs.Common.{◌≡◌, ℕ, zero, suc, ◌+◌, ◌<◌, Bool, true, false, ◌&&◌, ◌||◌, ◌⊎◌, List, [], ◌∷◌, ◌++◌, Option, Some, None, length, refl, sym, ◌∙◌, ap, subst, inl, inr, arith}
use Rattle.std.specs.Prelude.{IsTrue, slice_get, slice_index_or, filter, reverse, ◌==◌, ◌↔◌}
use Rattle.std.proofs.lemmas.Bool.{eqb-true, eq-eqb}
use Rattle.walk_engine.specs.declared.walks.Half.{Half}
use Rattle.walk_engine.specs.declared.walks.Step.{Step}
use Rattle.walk_engine.specs.declared.walks.StepReason.{StepReason}
use Rattle.walk_engine.specs.declared.walks.StepReason.TheVariants.{Initial, Edge, Offer}
use Rattle.walk_engine.specs.Walks.{Content, Way, has_gate, is_in}
use Rattle.walk_engine.specs.Explanations.{IsExplanation, Distinct, nodes_of}
use Rattle.walk_checks.specs.Whys.{Leans, IsWhy}
use Rattle.walk_checks.specs.inner.Backwards.{IsBack}
use Rattle.walk_checks.proofs.Bools.{decide, clash, or_cases, or_left, or_right, and_both, and_intro}
use Rattle.walk_checks.proofs.Numbers.{is_in_at}
use Rattle.walk_checks.proofs.Steps.{node_at}
use Rattle.walk_checks.proofs.BackLemmas.{keeps, back_none, back_skip, back_keep, back_kept, back_empty}

-- Whether the looked-up edge starts in the node.
abbrev starts_in : Option Way → ℕ → Bool
starts_in None m = false
starts_in (Some w) m = w.start == m

-- Whether the half of the looked-up edge waits for the node, as its start or its gate.
abbrev waits_for : Option Way → Half → ℕ → Bool
waits_for None h m = false
waits_for (Some w) h m = (w.start == m) || (has_gate w.ask h && (w.gate == m))

-- Whether the reason leans on the node.
abbrev leans : Content → StepReason → ℕ → Bool
leans c Initial m = false
leans c (Edge e) m = starts_in (slice_get c.ways e) m
leans c (Offer e h) m = waits_for (slice_get c.ways e) h m

starts_leans : (c : Content) (e m : ℕ) (o : Option Way) → slice_get c.ways e ≡ o → IsTrue (starts_in o m) → Leans c (Edge e) m
starts_leans c e m None at t = absurd (clash t refl)
starts_leans c e m (Some w) at t = (w, at, eqb-true w.start m t)

waits_leans : (c : Content) (e : ℕ) (h : Half) (m : ℕ) (o : Option Way) → slice_get c.ways e ≡ o → IsTrue (waits_for o h m) → Leans c (Offer e h) m
waits_leans c e h m None at t = absurd (clash t refl)
waits_leans c e h m (Some w) at t =
    elim (or_cases (w.start == m) (has_gate w.ask h && (w.gate == m)) t) [
      | inl p ↦ (w, at, inl (eqb-true w.start m p))
      | inr p ↦ let both = and_both (has_gate w.ask h) (w.gate == m) p in (w, at, inr (both.0, eqb-true w.gate m both.1))
    ]

leans_so : (c : Content) (r : StepReason) (m : ℕ) → IsTrue (leans c r m) → Leans c r m
leans_so c Initial m t = absurd (clash t refl)
leans_so c (Edge e) m t = starts_leans c e m (slice_get c.ways e) refl t
leans_so c (Offer e h) m t = waits_leans c e h m (slice_get c.ways e) refl t

leans_tells : (c : Content) (r : StepReason) (m : ℕ) → Leans c r m → IsTrue (leans c r m)
leans_tells c Initial m lean = absurd lean
leans_tells c (Edge e) m (w, at, start) = subst (λ (o : Option Way). IsTrue (starts_in o m)) (sym at) (eq-eqb w.start m start)
leans_tells c (Offer e h) m (w, at, lean) =
    let here : IsTrue (waits_for (Some w) h m) = elim lean [
      | inl p ↦ or_left (w.start == m) (has_gate w.ask h && (w.gate == m)) (eq-eqb w.start m p)
      | inr p ↦ or_right (w.start == m) (has_gate w.ask h && (w.gate == m)) (and_intro (has_gate w.ask h) (w.gate == m) p.0 (eq-eqb w.gate m p.1))
    ] in
    subst (λ (o : Option Way). IsTrue (waits_for o h m)) (sym at) here

-- The needed nodes after a kept step.
abbrev and_leaned : Content → (ℕ → Bool) → StepReason → ℕ → Bool
and_leaned c N r n = N n || leans c r n

and_leaned_is : (c : Content) (N : ℕ → Bool) (r : StepReason) (n : ℕ) → IsTrue (and_leaned c N r n) ↔ (IsTrue (N n) ⊎ Leans c r n)
and_leaned_is c N r n = (
  λ t. elim (or_cases (N n) (leans c r n) t) [ inl p ↦ inl p | inr p ↦ inr (leans_so c r n p) ],
  λ s. elim s [ inl p ↦ or_left (N n) (leans c r n) p | inr p ↦ or_right (N n) (leans c r n) (leans_tells c r n p) ],
)

-- The needed nodes and the kept steps after the steps from place `k` on were read.
abbrev Read : Content → List Step → ℕ → ℕ → Type 0
Read c steps node k = (N : ℕ → Bool) × (kept : List Step) × IsBack c steps node k N kept

read_one : (c : Content) (steps : List Step) (node p : ℕ) (d : Step) → p < length steps → Read c steps node (suc p) → Read c steps node p
read_one c steps node p d inside (N, kept, back) =
    let s : Step = slice_index_or steps p d in
    let next : suc p ≡ p + 1 = omega arith in
    elim (decide (N s.node)) [
      | inl t ↦ (and_leaned c N s.reason, kept ++ s ∷ [], back_keep c steps node (suc p) p d N (and_leaned c N s.reason) kept next inside t (and_leaned_is c N s.reason) back)
      | inr f ↦ (N, kept, back_skip c steps node (suc p) p d N kept next inside f back)
    ]

read_back : (c : Content) (steps : List Step) (node : ℕ) (d : Step) (j k : ℕ) → j + k ≡ length steps → Read c steps node k
read_back c steps node d zero k size = (λ n. n == node, [], back_none c steps node k (λ n. n == node) (omega (arith, size)) (λ n. (eqb-true n node, eq-eqb n node)))
read_back c steps node d (suc j) k size = read_one c steps node k d (omega (arith, size)) (read_back c steps node d j (suc k) (omega (arith, size)))

kept_at : (S : ℕ → Bool) (s : Step) (steps : List Step) (k : ℕ) (x : Step) → ((i : ℕ) → slice_get (filter (keeps S) steps) i ≡ Some x → (j : ℕ) × (slice_get steps j ≡ Some x)) → slice_get (s ∷ filter (keeps S) steps) k ≡ Some x → (j : ℕ) × (slice_get (s ∷ steps) j ≡ Some x)
kept_at S s steps zero x rest h = (0, h)
kept_at S s steps (suc k) x rest h = let r = rest k h in (suc r.0, r.1)

-- A kept step is a step.
kept_from : (S : ℕ → Bool) (steps : List Step) (k : ℕ) (x : Step) → slice_get (filter (keeps S) steps) k ≡ Some x → (j : ℕ) × (slice_get steps j ≡ Some x)
kept_from S [] k x h = absurd (cc)
kept_from S (s ∷ steps) k x h =
    elim (decide (S s.node)) [
      | inl t ↦ kept_at S s steps k x (λ i g. kept_from S steps i x g) (rw t at h)
      | inr f ↦ let r = kept_from S steps k x (rw f at h) in (suc r.0, r.1)
    ]

-- Steps of one node are one step.
same_step : (steps : List Step) (i j : ℕ) (a b : Step) → Distinct (nodes_of steps) → slice_get steps i ≡ Some a → slice_get steps j ≡ Some b → a.node ≡ b.node → a ≡ b
same_step [] i j a b d p q same = absurd (cc)
same_step (x ∷ xs) zero zero a b d p q same = let r : Some a ≡ Some b = sym p ∙ q in cc
same_step (x ∷ xs) zero (suc j) a b (new, d) p q same =
    let first : x ≡ a = cc in
    let node : b.node ≡ x.node = sym (ap (λ (s : Step). s.node) first ∙ same) in
    absurd (clash (subst (λ (n : ℕ). IsTrue (is_in (nodes_of xs) n)) node (is_in_at (nodes_of xs) j b.node (node_at xs j b q))) new)
same_step (x ∷ xs) (suc i) zero a b (new, d) p q same =
    let first : x ≡ b = cc in
    let node : a.node ≡ x.node = same ∙ sym (ap (λ (s : Step). s.node) first) in
    absurd (clash (subst (λ (n : ℕ). IsTrue (is_in (nodes_of xs) n)) node (is_in_at (nodes_of xs) i a.node (node_at xs i a p))) new)
same_step (x ∷ xs) (suc i) (suc j) a b (new, d) p q same = same_step xs i j a b d p q same

last_at : (before : List Step) (s : Step) → slice_get (before ++ s ∷ []) (length before) ≡ Some s
last_at [] s = refl
last_at (x ∷ before) s = last_at before s

-- The last step of an explanation of a node is the node's step.
why_last : (c : Content) (I : ℕ → Bool) (A : ℕ → Half → Bool) (steps : List Step) (p : ℕ) (s : Step) (kept : List Step) → IsExplanation c I A steps → slice_get steps p ≡ Some s → IsWhy c I A steps s.node kept → (before : List Step) × IsWhy c I A steps s.node (before ++ s ∷ [])
why_last c I A steps p s kept ok at why =
    let before = why.last.0 in
    let step = why.last.1 in
    let ends : kept ≡ before ++ step ∷ [] = why.last.2 in
    let found = kept_from why.rests steps (length before) step (ap (λ (xs : List Step). slice_get xs (length before)) (sym why.part ∙ ends) ∙ last_at before step) in
    let same : step ≡ s = same_step steps found.0 p step s ok.once found.1 at why.last.3 in
    (before, subst (λ (xs : List Step). IsWhy c I A steps s.node xs) (ends ∙ ap (λ (x : Step). before ++ x ∷ []) same) why)

why_of_read : (c : Content) (I : ℕ → Bool) (A : ℕ → Half → Bool) (steps : List Step) (p : ℕ) (s : Step) (N : ℕ → Bool) (kept : List Step) → IsExplanation c I A steps → slice_get steps p ≡ Some s → IsBack c steps s.node 0 N kept → (before : List Step) × IsWhy c I A steps s.node (before ++ s ∷ [])
why_of_read c I A steps p s N [] ok at back =
    absurd (clash (is_in_at (nodes_of steps) p s.node (node_at steps p s at)) (back_empty c I A steps s.node N [] refl ok back))
why_of_read c I A steps p s N (x ∷ kept) ok at back =
    why_last c I A steps p s (reverse (x ∷ kept)) ok at (back_kept c I A steps s.node N (x ∷ kept) (λ e. omega (arith, e)) ok back)

-- Each step of an explanation is the last step of an explanation of its node.
pub why_exists : (c : Content) (I : ℕ → Bool) (A : ℕ → Half → Bool) (steps : List Step) → IsExplanation c I A steps → (p : ℕ) (s : Step) → slice_get steps p ≡ Some s → (before : List Step) × IsWhy c I A steps s.node (before ++ s ∷ [])
why_exists c I A steps ok p s at =
    let read = read_back c steps s.node s (length steps) 0 (omega arith) in
    why_of_read c I A steps p s read.0 read.1 ok at read.2
