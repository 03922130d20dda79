-- Explanations, step by step.
use Rattle.std.proofs.Common.{◌≡◌, ℕ, zero, suc, ◌<◌, Bool, ◌||◌, List, [], ◌∷◌, ◌++◌, Option, Some, None, length, take, refl, sym, ◌∙◌, ap, subst, inl, inr, arith}
use Rattle.std.specs.Prelude.{IsTrue, IsFalse, slice_get, ◌==◌}
use Rattle.std.specs.Option.{option_map}
use Rattle.std.proofs.lemmas.Bool.{eqb-true, eq-eqb}
use Rattle.std.proofs.lemmas.List.{map-append, length-map, take-map, take_at, take-append-le, take_all}
use Rattle.std.proofs.lemmas.Option.{slice_get-map, slice_get_within}
use Rattle.walk_engine.specs.declared.walks.Half.{Half}
use Rattle.walk_engine.specs.declared.walks.Step.{Step}
use Rattle.walk_engine.specs.declared.walks.StepReason.{StepReason}
use Rattle.walk_engine.specs.declared.walks.StepReason.TheVariants.{Initial, Edge, Offer}
use Rattle.walk_engine.specs.Walks.{Content, Way, IsWay, EndsAreNodes, is_in, is_half, IsClosed}
use Rattle.walk_engine.specs.Explanations.{IsReason, IsExplanation, Distinct, nodes_of}
use Rattle.walk_engine.specs.Laws.{every}
use Rattle.walk_checks.specs.Exact.{names, named_in}
use Rattle.walk_checks.specs.inner.Tests.{KeepsReason, NamesOnly}
use Rattle.walk_checks.proofs.Bools.{clash, or_cases, or_left, or_right, and_intro, is_half_refl}
use Rattle.walk_checks.proofs.Numbers.{is_in-append, distinct_more, not_before, take_snoc, snoc_cases, take_past}

pub nodes_more : (steps : List Step) (step : Step) → nodes_of (steps ++ step ∷ []) ≡ nodes_of steps ++ step.node ∷ []
nodes_more steps step = map-append (λ (s : Step). s.node) steps (step ∷ [])

pub node_at : (steps : List Step) (k : ℕ) (step : Step) → slice_get steps k ≡ Some step → slice_get (nodes_of steps) k ≡ Some step.node
node_at steps k step h = slice_get-map (λ (s : Step). s.node) steps k ∙ ap (option_map (λ (s : Step). s.node)) h

pub take_nodes : (k : ℕ) (steps : List Step) → take k (nodes_of steps) ≡ nodes_of (take k steps)
take_nodes k steps = take-map (λ (s : Step). s.node) k steps

pub explained_none : (c : Content) (I : ℕ → Bool) (A : ℕ → Half → Bool) → IsExplanation c I A []
explained_none c I A = record { once = tt; reasons = λ k step h. absurd (cc) }

-- Appending a step whose reason holds by the steps before it.
pub explained_snoc : (c : Content) (I : ℕ → Bool) (A : ℕ → Half → Bool) (steps : List Step) (step : Step) → IsExplanation c I A steps → IsFalse (is_in (nodes_of steps) step.node) → IsReason c I A (nodes_of steps) step.node step.reason → IsExplanation c I A (steps ++ step ∷ [])
explained_snoc c I A steps step ok new reason =
    let all = nodes_more steps step in
    let long : length (nodes_of steps) ≡ length steps = length-map steps (λ (s : Step). s.node) in
    record {
      once = subst Distinct (sym all) (distinct_more (nodes_of steps) step.node ok.once new);
      reasons = λ k s h. elim (snoc_cases steps step k s h) [
        | inl p ↦
            let inside : k < length steps = slice_get_within steps k s p in
            let same : take k (nodes_of (steps ++ step ∷ [])) ≡ take k (nodes_of steps) = ap (take k) all ∙ take-append-le k (nodes_of steps) (step.node ∷ []) (omega arith) in
            subst (λ (xs : List ℕ). IsReason c I A xs s.node s.reason) (sym same) (ok.reasons k s p)
        | inr p ↦
            let same : take k (nodes_of (steps ++ step ∷ [])) ≡ nodes_of steps = ap (take k) all ∙ take_at (nodes_of steps) (step.node ∷ []) k (long ∙ sym p.0) in
            subst (λ (s' : Step). IsReason c I A (take k (nodes_of (steps ++ step ∷ []))) s'.node s'.reason) p.1 (subst (λ (xs : List ℕ). IsReason c I A xs step.node step.reason) (sym same) reason)
      ];
    }

-- Step `k` of an explanation is new, and its reason holds by the steps before it.
pub explained_at : (c : Content) (I : ℕ → Bool) (A : ℕ → Half → Bool) (steps : List Step) (k : ℕ) (step : Step) → IsExplanation c I A steps → slice_get steps k ≡ Some step → IsFalse (is_in (nodes_of (take k steps)) step.node) × IsReason c I A (nodes_of (take k steps)) step.node step.reason
explained_at c I A steps k step ok h =
    let same = take_nodes k steps in (
      subst (λ (xs : List ℕ). IsFalse (is_in xs step.node)) same (not_before (nodes_of steps) k step.node ok.once (node_at steps k step h)),
      subst (λ (xs : List ℕ). IsReason c I A xs step.node step.reason) same (ok.reasons k step h),
    )

-- If a reason holds for `n`, then `n` is below the number of nodes.
pub reason_node : (c : Content) (I : ℕ → Bool) (A : ℕ → Half → Bool) (before : List ℕ) (n : ℕ) (r : StepReason) → EndsAreNodes c → ((k : ℕ) → IsTrue (I k) → k < c.nodes) → IsReason c I A before n r → n < c.nodes
reason_node c I A before n Initial ends within t = within n t
reason_node c I A before n (Edge e) ends within (w, is, ask, far, start) = let q = (ends e w is).1 in omega arith
reason_node c I A before n (Offer e h) ends within (w, is, half, a, far, start, gate) = let q = (ends e w is).1 in omega arith

-- A reason that names only offers in `B` holds by `B`.
pub reason_only : (c : Content) (I : ℕ → Bool) (A B : ℕ → Half → Bool) (before : List ℕ) (n : ℕ) (r : StepReason) → IsReason c I A before n r → KeepsReason B r → IsReason c I B before n r
reason_only c I A B before n Initial t k = t
reason_only c I A B before n (Edge e) t k = t
reason_only c I A B before n (Offer e h) (w, is, half, a, far, start, gate) k = (w, is, half, k, far, start, gate)

pub explained_only : (c : Content) (I : ℕ → Bool) (A B : ℕ → Half → Bool) (steps : List Step) → IsExplanation c I A steps → NamesOnly B steps → IsExplanation c I B steps
explained_only c I A B steps ok only =
    record { once = ok.once; reasons = λ k step h. reason_only c I A B (take k (nodes_of steps)) step.node step.reason (ok.reasons k step h) (only k step h) }

-- The offer that a reason names belongs to a way and is in `A`.
pub reason_keeps : (c : Content) (I : ℕ → Bool) (A B : ℕ → Half → Bool) (before : List ℕ) (n : ℕ) (r : StepReason) → ((e : ℕ) (h : Half) (w : Way) → IsWay c e w → IsTrue (A e h) → IsTrue (B e h)) → IsReason c I A before n r → KeepsReason B r
reason_keeps c I A B before n Initial f t = tt
reason_keeps c I A B before n (Edge e) f t = tt
reason_keeps c I A B before n (Offer e h) f (w, is, half, a, far, start, gate) = f e h w is a

pub names_only : (c : Content) (I : ℕ → Bool) (A B : ℕ → Half → Bool) (steps : List Step) → ((e : ℕ) (h : Half) (w : Way) → IsWay c e w → IsTrue (A e h) → IsTrue (B e h)) → IsExplanation c I A steps → NamesOnly B steps
names_only c I A B steps f ok = λ k step h. reason_keeps c I A B (take k (nodes_of steps)) step.node step.reason f (ok.reasons k step h)

-- An explanation stays one by more offers.
pub explained_grows : (c : Content) (I : ℕ → Bool) (A B : ℕ → Half → Bool) (steps : List Step) → ((e : ℕ) (h : Half) (w : Way) → IsWay c e w → IsTrue (A e h) → IsTrue (B e h)) → IsExplanation c I A steps → IsExplanation c I B steps
explained_grows c I A B steps f ok = explained_only c I A B steps ok (names_only c I A B steps f ok)

keeps_named : (r : StepReason) (B : ℕ → Half → Bool) → ((e : ℕ) (h : Half) → IsTrue (names r e h) → IsTrue (B e h)) → KeepsReason B r
keeps_named Initial B f = tt
keeps_named (Edge e) B f = tt
keeps_named (Offer e h) B f = f e h (and_intro (e == e) (is_half h h) (eq-eqb e e refl) (is_half_refl h))

named_at : (steps : List Step) (k : ℕ) (step : Step) → slice_get steps k ≡ Some step → (e : ℕ) (h : Half) → IsTrue (names step.reason e h) → IsTrue (named_in steps e h)
named_at [] k step q e h t = absurd (cc)
named_at (s ∷ steps) zero step q e h t = let same : s ≡ step = cc in or_left (names s.reason e h) (named_in steps e h) (subst (λ (x : Step). IsTrue (names x.reason e h)) (sym same) t)
named_at (s ∷ steps) (suc k) step q e h t = or_right (names s.reason e h) (named_in steps e h) (named_at steps k step q e h t)

-- An explanation is one by the offers that it names.
pub explained_named : (c : Content) (I : ℕ → Bool) (steps : List Step) → IsExplanation c I every steps → IsExplanation c I (named_in steps) steps
explained_named c I steps ok = explained_only c I every (named_in steps) steps ok (λ k step h. keeps_named step.reason (named_in steps) (named_at steps k step h))

reason_in : (c : Content) (I : ℕ → Bool) (A : ℕ → Half → Bool) (S : ℕ → Bool) (before : List ℕ) (n : ℕ) (r : StepReason) → IsClosed c I A (λ k. IsTrue (S k)) → ((k : ℕ) → IsTrue (is_in before k) → IsTrue (S k)) → IsReason c I A before n r → IsTrue (S n)
reason_in c I A S before n Initial closed earlier t = closed.initial n t
reason_in c I A S before n (Edge e) closed earlier (w, is, ask, far, start) = subst (λ (k : ℕ). IsTrue (S k)) far (closed.unasked e w is ask (earlier w.start start))
reason_in c I A S before n (Offer e h) closed earlier (w, is, half, a, far, start, gate) = subst (λ (k : ℕ). IsTrue (S k)) far (closed.offered e h w is half a (earlier w.start start) (λ g. earlier w.gate (gate g)))

first_step : (c : Content) (I : ℕ → Bool) (A : ℕ → Half → Bool) (S : ℕ → Bool) (steps : List Step) → IsExplanation c I A steps → IsClosed c I A (λ k. IsTrue (S k)) → (k n : ℕ) → ((m : ℕ) → IsTrue (is_in (nodes_of (take k steps)) m) → IsTrue (S m)) → (o : Option Step) → slice_get steps k ≡ o → IsTrue (is_in (nodes_of (take (suc k) steps)) n) → IsTrue (S n)
first_step c I A S steps ok closed k n earlier None q t = earlier n (subst (λ (xs : List Step). IsTrue (is_in (nodes_of xs) n)) (take_past steps k q) t)
first_step c I A S steps ok closed k n earlier (Some step) q t =
    let more : nodes_of (take (suc k) steps) ≡ nodes_of (take k steps) ++ step.node ∷ [] = ap nodes_of (take_snoc steps k step q) ∙ nodes_more (take k steps) step in
    let t' : IsTrue (is_in (nodes_of (take k steps)) n || (step.node == n)) = sym (ap (λ (xs : List ℕ). is_in xs n) more ∙ is_in-append (nodes_of (take k steps)) step.node n) ∙ t in
    elim (or_cases (is_in (nodes_of (take k steps)) n) (step.node == n) t') [
      | inl p ↦ earlier n p
      | inr p ↦ subst (λ (m : ℕ). IsTrue (S m)) (eqb-true step.node n p) (reason_in c I A S (nodes_of (take k steps)) step.node step.reason closed earlier (explained_at c I A steps k step ok q).1)
    ]

first_in : (c : Content) (I : ℕ → Bool) (A : ℕ → Half → Bool) (S : ℕ → Bool) (steps : List Step) → IsExplanation c I A steps → IsClosed c I A (λ k. IsTrue (S k)) → (k : ℕ) → (n : ℕ) → IsTrue (is_in (nodes_of (take k steps)) n) → IsTrue (S n)
first_in c I A S steps ok closed zero n t = absurd (clash t refl)
first_in c I A S steps ok closed (suc k) n t = first_step c I A S steps ok closed k n (first_in c I A S steps ok closed k) (slice_get steps k) refl t

-- Each node of an explanation is in each closed set.
pub explained_in : (c : Content) (I : ℕ → Bool) (A : ℕ → Half → Bool) (S : ℕ → Bool) (steps : List Step) → IsExplanation c I A steps → IsClosed c I A (λ k. IsTrue (S k)) → (n : ℕ) → IsTrue (is_in (nodes_of steps) n) → IsTrue (S n)
explained_in c I A S steps ok closed n t = first_in c I A S steps ok closed (length steps) n (subst (λ (xs : List Step). IsTrue (is_in (nodes_of xs) n)) (sym (take_all (length steps) steps (omega arith))) t)
