-- The steps of needed nodes, found by their places.
use Rattle.std.proofs.Common.{◌≡◌, ℕ, zero, suc, ◌+◌, ◌-◌, ◌<◌, ◌≤◌, Bool, true, false, ◌||◌, ◌⊎◌, List, [], ◌∷◌, ◌++◌, Option, Some, None, length, take, refl, sym, ◌∙◌, ap, subst, inl, inr, arith}
use Rattle.std.specs.Prelude.{IsTrue, IsFalse, IsSome, IfNone, IfSome, slice_get, slice_index_or, option_and_then, ◌==◌, ◌↔◌}
use Rattle.std.specs.BTreeSet.{BTreeSet, btree_set_len, contains, IsUpperBound, Updates}
use Rattle.std.specs.BTreeMap.{is_at}
use Rattle.std.specs.List.{list_any}
use Rattle.std.specs.Ordering.{is_eq, nat_cmp}
use Rattle.std.proofs.lemmas.Bool.{cases_eq, cases_lt, eqb-true, eq-eqb}
use Rattle.std.proofs.lemmas.Bool.Decides.{nat_tests}
use Rattle.std.proofs.lemmas.List.{length-map}
use Rattle.std.proofs.lemmas.Map.Keys.{ge_from_not_lt}
use Rattle.std.proofs.lemmas.Option.{slice_get_within, slice_get-get_or}
use Rattle.walk_engine.specs.declared.walks.Half.{Half}
use Rattle.walk_engine.specs.declared.walks.Step.{Step}
use Rattle.walk_engine.specs.declared.walks.StepReason.{StepReason}
use Rattle.digraphs.specs.Bits.{has}
use Rattle.walk_engine.specs.Walks.{Content, EndsAreNodes, is_in}
use Rattle.walk_engine.specs.Explanations.{IsExplanation, nodes_of}
use Rattle.walk_checks.specs.declared.places.StepPlaces.{StepPlaces}
use Rattle.walk_checks.specs.Places.{ArePlaces, place_of}
use Rattle.walk_checks.specs.Whys.{Leans}
use Rattle.walk_checks.specs.inner.Backwards.{IsBack}
use Rattle.walk_checks.specs.inner.Waiting.{AddsLeaned, AreWaiting, IsReading, TakesGreatest, WasRead}
use Rattle.walk_checks.proofs.Bools.{clash, not_true, or_cases, or_left, or_right}
use Rattle.walk_checks.proofs.Numbers.{is_in_at}
use Rattle.walk_checks.proofs.Steps.{explained_at, node_at, take_nodes}
use Rattle.walk_checks.proofs.PlaceLemmas.{Placed, placed_at, place_listed, one_place, lower_place, in_first, step_at}
use Rattle.walk_checks.proofs.BackLemmas.{back_none, back_skip, back_keep, leans_before, listed_node}

-- ---- sets of places
at_other : (k q : ℕ) → (k ≡ q → ⊥) → is_eq (nat_cmp k q) ≡ false
at_other k q ne = grind (arith, nat_tests)

-- A set with one more key.
pub inserted : (old new : BTreeSet ℕ) (k : ℕ) → Updates nat_cmp old new k true → (q : ℕ) → IsTrue (contains nat_cmp new q) ↔ (IsTrue (contains nat_cmp old q) ⊎ (Some k ≡ Some q))
inserted old new k updates q =
    elim (cases_eq k q) [
      | inl e ↦ (λ t. inr (ap Some e), λ u. subst (λ (m : ℕ). IsTrue (contains nat_cmp new m)) e updates.1)
      | inr ne ↦
          let same : contains nat_cmp new q ≡ contains nat_cmp old q = updates.2 q (at_other k q ne) in
          (λ t. inl (sym same ∙ t), λ u. elim u [ inl t ↦ same ∙ t | inr e ↦ absurd (let f : k ≡ q = cc in ne f) ])
    ]

-- The greatest key is taken out.
pub taken : (old new : BTreeSet ℕ) (k : ℕ) → IsTrue (contains nat_cmp old k) → IsUpperBound nat_cmp old k → Updates nat_cmp old new k false → TakesGreatest (contains nat_cmp old) (contains nat_cmp new) k
taken old new k held bound updates =
    let most = λ (p : ℕ) (t : IsTrue (contains nat_cmp old p)). ge_from_not_lt k p (bound p t) in
    let gone : IsFalse (contains nat_cmp new k) = updates.1 in
    record {
      held = held;
      greatest = most;
      others = λ p. elim (cases_eq k p) [
        | inl e ↦ (λ t. absurd (clash (subst (λ (m : ℕ). IsTrue (contains nat_cmp new m)) (sym e) t) gone), λ u. absurd (let l : p < k = u.1 in omega arith))
        | inr ne ↦
            let same : contains nat_cmp new p ≡ contains nat_cmp old p = updates.2 p (at_other k p ne) in
            (λ t. (sym same ∙ t, let l : p ≤ k = most p (sym same ∙ t) in omega arith), λ u. same ∙ u.0)
      ];
    }

no_key_in : (keys : List ℕ) → length keys ≡ 0 → (p : ℕ) → list_any (is_at (nat_cmp p)) keys ≡ false
no_key_in [] none p = refl
no_key_in (k ∷ keys) none p = absurd (omega arith)

-- A set of no keys has none.
pub no_key : (set : BTreeSet ℕ) → btree_set_len set ≡ 0 → (p : ℕ) → IsFalse (contains nat_cmp set p)
no_key set none p = no_key_in set.keys none p

pub pops_greatest : (old new : BTreeSet ℕ) (r : Option ℕ) → IfSome r (λ k. IsTrue (contains nat_cmp old k)) → IfSome r (IsUpperBound nat_cmp old) → IfSome r (λ k. Updates nat_cmp old new k false) → IfSome r (TakesGreatest (contains nat_cmp old) (contains nat_cmp new))
pops_greatest old new None held bound updates = tt
pops_greatest old new (Some k) held bound updates = taken old new k held bound updates

pub pops_none : (old : BTreeSet ℕ) (r : Option ℕ) → IsSome r ↔ (0 < btree_set_len old) → IfNone r ((p : ℕ) → IsFalse (contains nat_cmp old p))
pops_none old None variant = no_key old (elim (cases_lt 0 (btree_set_len old)) [ inl l ↦ absurd (let e : false ≡ true = variant.1 l in cc) | inr m ↦ omega arith ])
pops_none old (Some k) variant = tt

-- The place of one node was inserted into an empty set.
pub only_first : (old new : BTreeSet ℕ) (place : ℕ → Option ℕ) (node : ℕ) → btree_set_len old ≡ 0 → ((p : ℕ) → IsTrue (contains nat_cmp new p) ↔ (IsTrue (contains nat_cmp old p) ⊎ (place node ≡ Some p))) → (p : ℕ) → IsTrue (contains nat_cmp new p) ↔ (place node ≡ Some p)
only_first old new place node none adds p = (λ t. elim ((adds p).0 t) [ inl u ↦ absurd (clash u (no_key old none p)) | inr e ↦ e ], λ e. (adds p).1 (inr e))

-- ---- the places of leaned nodes
then_some : (place : ℕ → Option ℕ) (o : Option ℕ) (p : ℕ) → option_and_then place o ≡ Some p → (m : ℕ) × (o ≡ Some m) × (place m ≡ Some p)
then_some place None p e = absurd (cc)
then_some place (Some m) p e = (m, refl, e)

some_then : (place : ℕ → Option ℕ) (o : Option ℕ) (m p : ℕ) → o ≡ Some m → place m ≡ Some p → option_and_then place o ≡ Some p
some_then place o m p e h = ap (option_and_then place) e ∙ h

-- The places of the start and of the gate are added.
pub adds_both : (c : Content) (reason : StepReason) (place : ℕ → Option ℕ) (start gate : Option ℕ) (W V U : ℕ → Bool)
    → ((m : ℕ) → Leans c reason m ↔ ((start ≡ Some m) ⊎ (gate ≡ Some m)))
    → ((p : ℕ) → IsTrue (V p) ↔ (IsTrue (W p) ⊎ (option_and_then place start ≡ Some p)))
    → ((p : ℕ) → IsTrue (U p) ↔ (IsTrue (V p) ⊎ (option_and_then place gate ≡ Some p)))
    → AddsLeaned c reason place W U
adds_both c reason place start gate W V U leans first second p = (
  λ t. elim ((second p).0 t) [
    | inl v ↦ elim ((first p).0 v) [ inl w ↦ inl w | inr e ↦ let r = then_some place start p e in inr (r.0, (leans r.0).1 (inl r.1), r.2) ]
    | inr e ↦ let r = then_some place gate p e in inr (r.0, (leans r.0).1 (inr r.1), r.2)
  ],
  λ u. elim u [
    | inl w ↦ (second p).1 (inl ((first p).1 (inl w)))
    | inr r ↦ elim ((leans r.0).0 r.1) [
      | inl e ↦ (second p).1 (inl ((first p).1 (inr (some_then place start r.0 p e r.2))))
      | inr e ↦ (second p).1 (inr (some_then place gate r.0 p e r.2))
    ]
  ],
)

-- ---- one round
-- The places are those of an explanation.
pub record AreTied (c : Content) (I : ℕ → Bool) (A : ℕ → Half → Bool) (steps : List Step) (place : ℕ → Option ℕ) : Type 0 where
  pub explained : IsExplanation c I A steps
  pub placed : Placed c.nodes (nodes_of steps) (nodes_of steps) place
  pub nodes : (n : ℕ) → IsTrue (is_in (nodes_of steps) n) → n < c.nodes

pub place_inside : (count : ℕ) (steps : List Step) (place : ℕ → Option ℕ) (n p : ℕ) → Placed count (nodes_of steps) (nodes_of steps) place → place n ≡ Some p → p < length steps
place_inside count steps place n p placed e =
    let l : p < length (nodes_of steps) = slice_get_within (nodes_of steps) p n (placed_at count (nodes_of steps) place placed n p e) in
    let long : length (nodes_of steps) ≡ length steps = length-map steps (λ (s : Step). s.node) in
    omega arith

step_place : (c : Content) (I : ℕ → Bool) (A : ℕ → Half → Bool) (steps : List Step) (place : ℕ → Option ℕ) (p : ℕ) (s : Step) → AreTied c I A steps place → slice_get steps p ≡ Some s → place s.node ≡ Some p
step_place c I A steps place p s tied h =
    let at = node_at steps p s h in
    let t = is_in_at (nodes_of steps) p s.node at in
    let found = place_listed c.nodes (nodes_of steps) place tied.placed s.node (tied.nodes s.node t) t in
    let same : found.0 ≡ p = one_place (nodes_of steps) found.0 p s.node tied.explained.once (placed_at c.nodes (nodes_of steps) place tied.placed s.node found.0 found.1) at in
    found.1 ∙ ap Some same

node_place : (count : ℕ) (steps : List Step) (place : ℕ → Option ℕ) (n p : ℕ) (s : Step) → Placed count (nodes_of steps) (nodes_of steps) place → place n ≡ Some p → slice_get steps p ≡ Some s → s.node ≡ n
node_place count steps place n p s placed e h =
    let r : Some s.node ≡ Some n = sym (node_at steps p s h) ∙ placed_at count (nodes_of steps) place placed n p e in cc

pub tie : (c : Content) (I : List Bool) (A : ℕ → Half → Bool) (steps : List Step) (places : StepPlaces) → EndsAreNodes c → ArePlaces c.nodes steps places → length I ≡ c.nodes → IsExplanation c (has I) A steps → AreTied c (has I) A steps (place_of places)
tie c I A steps places ends placed size ok = record { explained = ok; placed = placed; nodes = λ n t. listed_node c I A steps n ends size ok t }

-- Each place that waits is that of a step.
pub inside_more : (c : Content) (reason : StepReason) (count : ℕ) (steps : List Step) (place : ℕ → Option ℕ) (W V U : ℕ → Bool) (p : ℕ) → Placed count (nodes_of steps) (nodes_of steps) place → TakesGreatest W V p → AddsLeaned c reason place V U → ((q : ℕ) → IsTrue (W q) → q < length steps) → (q : ℕ) → IsTrue (U q) → q < length steps
inside_more c reason count steps place W V U p placed takes adds inside q t =
    elim ((adds q).0 t) [ inl v ↦ inside q ((takes.others q).0 v).0 | inr r ↦ place_inside count steps place r.0 q placed r.2 ]

-- Before any step was read, the node's own place waits.
pub reading_begins : (c : Content) (I : ℕ → Bool) (A : ℕ → Half → Bool) (steps : List Step) (place : ℕ → Option ℕ) (node bound : ℕ) (W : ℕ → Bool) → AreTied c I A steps place → bound ≡ length steps → ((p : ℕ) → IsTrue (W p) ↔ (place node ≡ Some p)) → IsReading c steps node bound W []
reading_begins c I A steps place node bound W tied long only =
    record {
      from = length steps;
      within = omega arith;
      needs = λ (n : ℕ). n == node;
      back = back_none c steps node (length steps) (λ (n : ℕ). n == node) (omega arith) (λ n. (λ t. eqb-true n node t, λ e. eq-eqb n node e));
      waiting = record {
        below = λ p t. place_inside c.nodes steps place node p tied.placed ((only p).0 t);
        needed = λ p s l h. (
          λ t. (only p).1 (subst (λ (m : ℕ). place m ≡ Some p) (eqb-true s.node node t) (step_place c I A steps place p s tied h)),
          λ t. eq-eqb s.node node (node_place c.nodes steps place node p s tied.placed ((only p).0 t) h),
        );
      };
    }

skip_many : (c : Content) (steps : List Step) (node gap k p : ℕ) (d : Step) (N : ℕ → Bool) (kept : List Step) → k ≡ gap + p → k ≤ length steps → ((j : ℕ) (s : Step) → p ≤ j → j < k → slice_get steps j ≡ Some s → IsFalse (N s.node)) → IsBack c steps node k N kept → IsBack c steps node p N kept
skip_many c steps node zero k p d N kept e long out back = let same : k ≡ p = omega arith in subst (λ (i : ℕ). IsBack c steps node i N kept) same back
skip_many c steps node (suc gap) k p d N kept e long out back =
    let q : ℕ = gap + p in
    let inside : q < length steps = omega arith in
    let next : k ≡ q + 1 = omega arith in
    let low : p ≤ q = omega arith in
    let top : q < k = omega arith in
    skip_many c steps node gap q p d N kept refl (omega arith) (λ j s l m h. out j s l (omega arith) h) (back_skip c steps node k q d N kept next inside (out q (slice_index_or steps q d) low top (slice_get-get_or steps q d inside)) back)

-- Whether there is a place, and it waits.
abbrev pub waits : (ℕ → Bool) → Option ℕ → Bool
waits W None = false
waits W (Some p) = W p

-- The needed nodes once a step was kept.
abbrev pub needs_more : (ℕ → Bool) → (ℕ → Bool) → (ℕ → Option ℕ) → ℕ → Bool
needs_more N U place n = N n || waits U (place n)

waits_at : (U : ℕ → Bool) (place : ℕ → Option ℕ) (n q : ℕ) → place n ≡ Some q → IsTrue (U q) → IsTrue (waits U (place n))
waits_at U place n q e t = ap (waits U) e ∙ t

at_waiting : (U : ℕ → Bool) (o : Option ℕ) → IsTrue (waits U o) → (q : ℕ) × (o ≡ Some q) × IsTrue (U q)
at_waiting U None t = absurd (clash t refl)
at_waiting U (Some q) t = (q, refl, t)

lean_listed : (c : Content) (I : ℕ → Bool) (A : ℕ → Half → Bool) (steps : List Step) (p m : ℕ) (s : Step) → IsExplanation c I A steps → slice_get steps p ≡ Some s → Leans c s.reason m → IsTrue (is_in (take p (nodes_of steps)) m)
lean_listed c I A steps p m s ok at lean = subst (λ (xs : List ℕ). IsTrue (is_in xs m)) (sym (take_nodes p steps)) (leans_before c I A (nodes_of (take p steps)) s.node s.reason m (explained_at c I A steps p s ok at).1 lean)

new_needed : (c : Content) (I : ℕ → Bool) (A : ℕ → Half → Bool) (steps : List Step) (place : ℕ → Option ℕ) (k p : ℕ) (s : Step) (N W V U : ℕ → Bool) → AreTied c I A steps place → p < k → AreWaiting steps k N W → TakesGreatest W V p → AddsLeaned c s.reason place V U → (n : ℕ) → IsTrue (waits U (place n)) → IsTrue (N n) ⊎ Leans c s.reason n
new_needed c I A steps place k p s N W V U tied low waiting takes adds n t =
    let w = at_waiting U (place n) t in
    let at = placed_at c.nodes (nodes_of steps) place tied.placed n w.0 w.1 in
    elim ((adds w.0).0 w.2) [
      | inl v ↦
          let took = (takes.others w.0).0 v in
          let below : w.0 < p = took.1 in
          let found = step_at steps w.0 n at in
          let inside : w.0 < k = omega arith in
          inl (subst (λ (m : ℕ). IsTrue (N m)) found.2 ((waiting.needed w.0 found.0 inside found.1).1 took.0))
      | inr r ↦
          let same : r.0 ≡ n = (let e : Some r.0 ≡ Some n = sym (placed_at c.nodes (nodes_of steps) place tied.placed r.0 w.0 r.2) ∙ at in cc) in
          inr (subst (λ (m : ℕ). Leans c s.reason m) same r.1)
    ]

lean_needed : (c : Content) (I : ℕ → Bool) (A : ℕ → Half → Bool) (steps : List Step) (place : ℕ → Option ℕ) (p : ℕ) (s : Step) (V U : ℕ → Bool) → AreTied c I A steps place → slice_get steps p ≡ Some s → AddsLeaned c s.reason place V U → (n : ℕ) → Leans c s.reason n → IsTrue (waits U (place n))
lean_needed c I A steps place p s V U tied at adds n lean =
    let t = in_first (nodes_of steps) p n (lean_listed c I A steps p n s tied.explained at lean) in
    let found = place_listed c.nodes (nodes_of steps) place tied.placed n (tied.nodes n t) t in
    waits_at U place n found.0 found.1 ((adds found.0).1 (inr (n, lean, found.1)))

next_waiting : (c : Content) (I : ℕ → Bool) (A : ℕ → Half → Bool) (steps : List Step) (place : ℕ → Option ℕ) (k p : ℕ) (s : Step) (N W V U : ℕ → Bool) → AreTied c I A steps place → p < k → slice_get steps p ≡ Some s → AreWaiting steps k N W → TakesGreatest W V p → AddsLeaned c s.reason place V U → AreWaiting steps p (needs_more N U place) U
next_waiting c I A steps place k p s N W V U tied low at waiting takes adds =
    record {
      below = λ q t. elim ((adds q).0 t) [
        | inl v ↦ ((takes.others q).0 v).1
        | inr r ↦ lower_place (nodes_of steps) p q r.0 tied.explained.once (placed_at c.nodes (nodes_of steps) place tied.placed r.0 q r.2) (lean_listed c I A steps p r.0 s tied.explained at r.1)
      ];
      needed = λ q step l h.
          let here = step_place c I A steps place q step tied h in
          let inside : q < k = omega arith in (
            λ t. elim (or_cases (N step.node) (waits U (place step.node)) t) [
              | inl u ↦ (adds q).1 (inl ((takes.others q).1 ((waiting.needed q step inside h).0 u, l)))
              | inr u ↦ sym (ap (waits U) here) ∙ u
            ],
            λ t. or_right (N step.node) (waits U (place step.node)) (waits_at U place step.node q here t),
          );
    }

-- The step at the greatest waiting place is kept, and the places on which it leans wait.
pub reading_step : (c : Content) (I : ℕ → Bool) (A : ℕ → Half → Bool) (steps : List Step) (place : ℕ → Option ℕ) (node bound next p : ℕ) (d : Step) (W V U : ℕ → Bool) (kept : List Step) → AreTied c I A steps place → bound ≤ length steps → bound ≡ next + 1 → TakesGreatest W V p → AddsLeaned c (slice_index_or steps p d).reason place V U → IsReading c steps node bound W kept → IsReading c steps node next U (kept ++ slice_index_or steps p d ∷ [])
reading_step c I A steps place node bound next p d W V U kept tied long e takes adds reading =
    let s : Step = slice_index_or steps p d in
    let k : ℕ = reading.from in
    let N : ℕ → Bool = reading.needs in
    let under : k ≤ bound = reading.within in
    let low : p < k = reading.waiting.below p takes.held in
    let inside : p < length steps = omega arith in
    let at : slice_get steps p ≡ Some s = slice_get-get_or steps p d inside in
    let gap : k ≡ (k - suc p) + suc p = omega arith in
    let out = λ (j : ℕ) (step : Step) (l : suc p ≤ j) (m : j < k) (h : slice_get steps j ≡ Some step). not_true (N step.node) (λ t. let u : j ≤ p = takes.greatest j ((reading.waiting.needed j step m h).0 t) in omega arith) in
    let back : IsBack c steps node (suc p) N kept = skip_many c steps node (k - suc p) k (suc p) d N kept gap (omega arith) out reading.back in
    let here : IsTrue (N s.node) = (reading.waiting.needed p s low at).1 takes.held in
    let M : ℕ → Bool = needs_more N U place in
    let more : (n : ℕ) → IsTrue (M n) ↔ (IsTrue (N n) ⊎ Leans c s.reason n) = λ n. (
      λ t. elim (or_cases (N n) (waits U (place n)) t) [ inl u ↦ inl u | inr u ↦ new_needed c I A steps place k p s N W V U tied low reading.waiting takes adds n u ],
      λ u. elim u [ inl t ↦ or_left (N n) (waits U (place n)) t | inr lean ↦ or_right (N n) (waits U (place n)) (lean_needed c I A steps place p s V U tied at adds n lean) ],
    ) in
    record {
      from = p;
      within = omega arith;
      needs = M;
      back = back_keep c steps node (suc p) p d N M kept (omega arith) inside here more back;
      waiting = next_waiting c I A steps place k p s N W V U tied low at reading.waiting takes adds;
    }

-- No place waits: the steps that weren't read aren't needed.
pub reading_ends : (c : Content) (steps : List Step) (node bound : ℕ) (d : Step) (W : ℕ → Bool) (kept : List Step) → bound ≤ length steps → ((p : ℕ) → IsFalse (W p)) → IsReading c steps node bound W kept → WasRead c steps node kept
reading_ends c steps node bound d W kept long none reading =
    let k : ℕ = reading.from in
    let under : k ≤ bound = reading.within in
    let gap : k ≡ k + 0 = omega arith in
    let out = λ (j : ℕ) (step : Step) (l : 0 ≤ j) (m : j < k) (h : slice_get steps j ≡ Some step). not_true (reading.needs step.node) (λ t. clash ((reading.waiting.needed j step m h).0 t) (none j)) in
    (reading.needs, skip_many c steps node k k 0 d reading.needs kept gap (omega arith) out reading.back)

-- No place is left below 0.
pub none_below : (c : Content) (steps : List Step) (node bound : ℕ) (W : ℕ → Bool) (kept : List Step) → bound ≡ 0 → IsReading c steps node bound W kept → (p : ℕ) → IsFalse (W p)
none_below c steps node bound W kept e reading p = not_true (W p) (λ t. let l : p < reading.from = reading.waiting.below p t in let under : reading.from ≤ bound = reading.within in omega arith)
