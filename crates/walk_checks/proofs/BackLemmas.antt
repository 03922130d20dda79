-- The steps on which a node rests.
use Rattle.std.proofs.Common.{◌≡◌, ℕ, zero, suc, ◌+◌, ◌<◌, ◌≤◌, Bool, true, false, ◌&&◌, ◌⊎◌, List, [], ◌∷◌, ◌++◌, Option, Some, None, length, take, drop, refl, sym, ◌∙◌, ap, subst, inl, inr, arith, drop-cons}
use Rattle.std.specs.Prelude.{IsTrue, IsFalse, slice_get, slice_index_or, filter, reverse, ◌==◌, ◌↔◌}
use Rattle.std.proofs.lemmas.Bool.{eqb-true, cases_eq}
use Rattle.std.proofs.lemmas.List.{append-nil, reverse-append, take_all, drop_all}
use Rattle.std.proofs.lemmas.List.Elements.{filter-append}
use Rattle.std.proofs.lemmas.Option.{slice_get_within, slice_get-get_or}
use Rattle.digraphs.specs.Bits.{has}
use Rattle.walk_engine.specs.declared.walks.Half.{Half}
use Rattle.walk_engine.specs.declared.walks.Step.{Step}
use Rattle.walk_engine.specs.declared.walks.StepReason.{StepReason}
use Rattle.walk_engine.specs.declared.walks.StepReason.TheVariants.{Initial, Edge, Offer}
use Rattle.walk_engine.specs.Walks.{Content, Way, EndsAreNodes, has_gate, is_in}
use Rattle.walk_engine.specs.Explanations.{IsReason, IsExplanation, nodes_of}
use Rattle.walk_checks.specs.Whys.{Leans, IsSupported, IsWhy}
use Rattle.walk_checks.specs.inner.Backwards.{IsBegun, IsKept, IsBack}
use Rattle.walk_checks.proofs.Bools.{decide, clash, or_cases, or_left, or_right, and_both, and_intro, not_true}
use Rattle.walk_checks.proofs.Numbers.{take_snoc, take_past, has_within}
use Rattle.walk_checks.proofs.Steps.{explained_none, explained_snoc, explained_at, take_nodes, reason_node}

-- Whether the node of the step is in the set.
abbrev pub keeps : (ℕ → Bool) → Step → Bool
keeps S step = S step.node

filter_in : (S : ℕ → Bool) (steps : List Step) (n : ℕ) → is_in (nodes_of (filter (keeps S) steps)) n ≡ (S n && is_in (nodes_of steps) n)
filter_in S [] n = elim (decide (S n)) [ inl p ↦ rw p refl | inr p ↦ rw p refl ]
filter_in S (s ∷ steps) n =
    elim (decide (s.node == n)) [
      | inl q ↦ let same : s.node ≡ n = eqb-true s.node n q in elim (decide (S s.node)) [
        | inl t ↦ rw (t, q) (sym (and_intro (S n) true (subst (λ (k : ℕ). IsTrue (S k)) same t) refl))
        | inr f ↦ rw (f, q) (filter_in S steps n ∙ let no : IsFalse (S n) = subst (λ (k : ℕ). IsFalse (S k)) same f in rw no refl)
      ]
      | inr q ↦ elim (decide (S s.node)) [ inl t ↦ rw (t, q) (filter_in S steps n) | inr f ↦ rw (f, q) (filter_in S steps n) ]
    ]

filter_same : (S T : ℕ → Bool) (steps : List Step) → ((j : ℕ) (step : Step) → slice_get steps j ≡ Some step → T step.node ≡ S step.node) → filter (keeps T) steps ≡ filter (keeps S) steps
filter_same S T [] f = refl
filter_same S T (s ∷ steps) f =
    let rest = filter_same S T steps (λ j step h. f (suc j) step h) in
    elim (decide (S s.node)) [ inl t ↦ rw (t, f 0 s refl ∙ t) (ap (λ xs. s ∷ xs) rest) | inr n ↦ rw (n, f 0 s refl ∙ n) rest ]

-- A reason leans only on nodes that are before it.
pub leans_before : (c : Content) (I : ℕ → Bool) (A : ℕ → Half → Bool) (before : List ℕ) (n : ℕ) (r : StepReason) (m : ℕ) → IsReason c I A before n r → Leans c r m → IsTrue (is_in before m)
leans_before c I A before n Initial m reason lean = absurd lean
leans_before c I A before n (Edge e) m (w, is, ask, far, start) (v, isv, at) =
    let same : w ≡ v = (let r : Some w ≡ Some v = sym is ∙ isv in cc) in
    subst (λ (k : ℕ). IsTrue (is_in before k)) (ap (λ (x : Way). x.start) same ∙ at) start
leans_before c I A before n (Offer e h) m (w, is, half, a, far, start, gate) (v, isv, at) =
    let same : w ≡ v = (let r : Some w ≡ Some v = sym is ∙ isv in cc) in
    elim at [
      | inl p ↦ subst (λ (k : ℕ). IsTrue (is_in before k)) (ap (λ (x : Way). x.start) same ∙ p) start
      | inr p ↦ subst (λ (k : ℕ). IsTrue (is_in before k)) (ap (λ (x : Way). x.gate) same ∙ p.1) (gate (subst (λ (x : Way). IsTrue (has_gate x.ask h)) (sym same) p.0))
    ]

-- A reason holds by the earlier nodes on which it leans.
reason_part : (c : Content) (I : ℕ → Bool) (A : ℕ → Half → Bool) (before part : List ℕ) (n : ℕ) (r : StepReason) → IsReason c I A before n r → ((m : ℕ) → Leans c r m → IsTrue (is_in part m)) → IsReason c I A part n r
reason_part c I A before part n Initial t f = t
reason_part c I A before part n (Edge e) (w, is, ask, far, start) f = (w, is, ask, far, f w.start (w, is, refl))
reason_part c I A before part n (Offer e h) (w, is, half, a, far, start, gate) f = (w, is, half, a, far, f w.start (w, is, inl refl), λ g. f w.gate (w, is, inr (g, refl)))

-- The steps of a supported set's nodes are an explanation.
part_step : (c : Content) (I : ℕ → Bool) (A : ℕ → Half → Bool) (S : ℕ → Bool) (steps : List Step) → IsExplanation c I A steps → IsSupported c steps S → (k : ℕ) → IsExplanation c I A (filter (keeps S) (take k steps)) → (o : Option Step) → slice_get steps k ≡ o → IsExplanation c I A (filter (keeps S) (take (suc k) steps))
part_step c I A S steps ok supported k earlier None q = subst (λ (xs : List Step). IsExplanation c I A (filter (keeps S) xs)) (sym (take_past steps k q)) earlier
part_step c I A S steps ok supported k earlier (Some s) q =
    let xs = take k steps in
    let more : filter (keeps S) (take (suc k) steps) ≡ filter (keeps S) xs ++ filter (keeps S) (s ∷ []) = ap (filter (keeps S)) (take_snoc steps k s q) ∙ filter-append (keeps S) xs (s ∷ []) in
    let at = explained_at c I A steps k s ok q in
    elim (decide (S s.node)) [
      | inl t ↦
          let one : filter (keeps S) (s ∷ []) ≡ s ∷ [] = rw t refl in
          let new : IsFalse (is_in (nodes_of (filter (keeps S) xs)) s.node) = filter_in S xs s.node ∙ not_true (S s.node && is_in (nodes_of xs) s.node) (λ u. clash (and_both (S s.node) (is_in (nodes_of xs) s.node) u).1 at.0) in
          let reason : IsReason c I A (nodes_of (filter (keeps S) xs)) s.node s.reason = reason_part c I A (nodes_of xs) (nodes_of (filter (keeps S) xs)) s.node s.reason at.1 (λ m lean. filter_in S xs m ∙ and_intro (S m) (is_in (nodes_of xs) m) (supported k s q t m lean) (leans_before c I A (nodes_of xs) s.node s.reason m at.1 lean)) in
          subst (λ (ys : List Step). IsExplanation c I A ys) (sym (more ∙ ap (λ (ys : List Step). filter (keeps S) xs ++ ys) one)) (explained_snoc c I A (filter (keeps S) xs) s earlier new reason)
      | inr f ↦
          let none : filter (keeps S) (s ∷ []) ≡ [] = rw f refl in
          subst (λ (ys : List Step). IsExplanation c I A ys) (sym (more ∙ (ap (λ (ys : List Step). filter (keeps S) xs ++ ys) none ∙ append-nil (filter (keeps S) xs)))) earlier
    ]

part_first : (c : Content) (I : ℕ → Bool) (A : ℕ → Half → Bool) (S : ℕ → Bool) (steps : List Step) → IsExplanation c I A steps → IsSupported c steps S → (k : ℕ) → IsExplanation c I A (filter (keeps S) (take k steps))
part_first c I A S steps ok supported zero = explained_none c I A
part_first c I A S steps ok supported (suc k) = part_step c I A S steps ok supported k (part_first c I A S steps ok supported k) (slice_get steps k) refl

explained_part : (c : Content) (I : ℕ → Bool) (A : ℕ → Half → Bool) (S : ℕ → Bool) (steps : List Step) → IsExplanation c I A steps → IsSupported c steps S → IsExplanation c I A (filter (keeps S) steps)
explained_part c I A S steps ok supported = subst (λ (xs : List Step). IsExplanation c I A (filter (keeps S) xs)) (take_all (length steps) steps (omega arith)) (part_first c I A S steps ok supported (length steps))

drop_past : {X : Type 0} (xs : List X) (k : ℕ) → length xs ≤ k → drop k xs ≡ []
drop_past xs k h = drop_all k xs h

at_same : (steps : List Step) (p j : ℕ) (d step : Step) → j ≡ p → p < length steps → slice_get steps j ≡ Some step → slice_index_or steps p d ≡ step
at_same steps p j d step q inside h = let r : Some (slice_index_or steps p d) ≡ Some step = sym (slice_get-get_or steps p d inside) ∙ (ap (slice_get steps) (sym q) ∙ h) in cc

same_test : (a b : Bool) → (IsTrue a → IsTrue b) → (IsTrue b → IsTrue a) → b ≡ a
same_test true b f g = f refl
same_test false true f g = sym (g refl)
same_test false false f g = refl

slice_get-drop : {X : Type 0} (xs : List X) (k j : ℕ) (x : X) → slice_get (drop k xs) j ≡ Some x → slice_get xs (k + j) ≡ Some x
slice_get-drop xs zero j x h = let e : 0 + j ≡ j = omega arith in rw e h
slice_get-drop [] (suc k) j x h = absurd (cc)
slice_get-drop (y ∷ xs) (suc k) j x h = let e : suc k + j ≡ suc (k + j) = omega arith in rw e (slice_get-drop xs k j x h)

-- A member of a prefix is a member of each longer prefix.
pub first_more : (xs : List ℕ) (p j n : ℕ) → p ≤ j → IsTrue (is_in (take p xs) n) → IsTrue (is_in (take j xs) n)
first_more xs zero j n l t = absurd (clash t refl)
first_more [] (suc p) j n l t = absurd (clash t refl)
first_more (x ∷ xs) (suc p) zero n l t = absurd (omega arith)
first_more (x ∷ xs) (suc p) (suc j) n l t = elim (or_cases (x == n) (is_in (take p xs) n) t) [
  | inl q ↦ or_left (x == n) (is_in (take j xs) n) q
  | inr q ↦ or_right (x == n) (is_in (take j xs) n) (first_more xs p j n (omega arith) q)
]

-- The nodes on which a step leans make no later step needed.
later_needed : (c : Content) (I : ℕ → Bool) (A : ℕ → Half → Bool) (steps : List Step) (p j : ℕ) (s step : Step) (N N' : ℕ → Bool) → IsExplanation c I A steps → IsReason c I A (nodes_of (take p steps)) s.node s.reason → ((n : ℕ) → IsTrue (N' n) ↔ (IsTrue (N n) ⊎ Leans c s.reason n)) → p ≤ j → slice_get steps j ≡ Some step → IsTrue (N' step.node) → IsTrue (N step.node)
later_needed c I A steps p j s step N N' ok reason more past h t =
    elim ((more step.node).0 t) [
      | inl q ↦ q
      | inr q ↦
          let early : IsTrue (is_in (nodes_of (take p steps)) step.node) = leans_before c I A (nodes_of (take p steps)) s.node s.reason step.node reason q in
          let early' : IsTrue (is_in (take p (nodes_of steps)) step.node) = subst (λ (xs : List ℕ). IsTrue (is_in xs step.node)) (sym (take_nodes p steps)) early in
          let late : IsTrue (is_in (nodes_of (take j steps)) step.node) = subst (λ (xs : List ℕ). IsTrue (is_in xs step.node)) (take_nodes j steps) (first_more (nodes_of steps) p j step.node past early') in
          absurd (clash late (explained_at c I A steps j step ok h).0)
    ]

-- The invariant holds before any step was read.
pub back_none : (c : Content) (steps : List Step) (node k : ℕ) (N : ℕ → Bool) → length steps ≤ k → ((n : ℕ) → IsTrue (N n) ↔ (n ≡ node)) → IsBack c steps node k N []
back_none c steps node k N long only =
    record {
      sound = λ n t S supported at. subst (λ (m : ℕ). IsTrue (S m)) (sym ((only n).0 t)) at;
      held = (only node).1 refl;
      begun = λ n t. (only n).0 t;
      explained = λ I A ok. record {
        listing = sym (ap (filter (keeps N)) (drop_past steps k long));
        supported = λ j step past h. absurd (let r = slice_get_within steps j step h in omega arith);
      };
    }

-- Skipping a step that isn't needed keeps the invariant.
pub back_skip : (c : Content) (steps : List Step) (node k p : ℕ) (d : Step) (N : ℕ → Bool) (kept : List Step) → k ≡ p + 1 → p < length steps → IsFalse (N (slice_index_or steps p d).node) → IsBack c steps node k N kept → IsBack c steps node p N kept
back_skip c steps node k p d N kept next inside out back =
    let s = slice_index_or steps p d in
    let e : suc p ≡ k = omega arith in
    let rest : drop p steps ≡ s ∷ drop k steps = drop-cons steps p d inside ∙ ap (λ (i : ℕ). s ∷ drop i steps) e in
    let no : filter (keeps N) (s ∷ drop k steps) ≡ filter (keeps N) (drop k steps) = rw out refl in
    record {
      sound = back.sound;
      held = back.held;
      begun = back.begun;
      explained = λ I A ok.
          let was = back.explained I A ok in
          record {
            listing = was.listing ∙ sym (ap (filter (keeps N)) rest ∙ no);
            supported = λ j step past h t. elim (cases_eq j p) [
              | inl q ↦ absurd (clash (subst (λ (x : Step). IsTrue (N x.node)) (sym (at_same steps p j d step q inside h)) t) out)
              | inr q ↦ was.supported j step (omega arith) h t
            ];
          };
    }

begun_more : (node : ℕ) (N N' : ℕ → Bool) (kept : List Step) (s : Step) → IsTrue (N s.node) → IsBegun node N kept → IsBegun node N' (kept ++ s ∷ [])
begun_more node N N' [] s t begun = begun s.node t
begun_more node N N' (x ∷ kept) s t begun = begun

-- Keeping a needed step, and needing the nodes on which it leans, keeps the invariant.
pub back_keep : (c : Content) (steps : List Step) (node k p : ℕ) (d : Step) (N N' : ℕ → Bool) (kept : List Step) → k ≡ p + 1 → p < length steps → IsTrue (N (slice_index_or steps p d).node) → ((n : ℕ) → IsTrue (N' n) ↔ (IsTrue (N n) ⊎ Leans c (slice_index_or steps p d).reason n)) → IsBack c steps node k N kept → IsBack c steps node p N' (kept ++ slice_index_or steps p d ∷ [])
back_keep c steps node k p d N N' kept next inside here more back =
    let s = slice_index_or steps p d in
    let at : slice_get steps p ≡ Some s = slice_get-get_or steps p d inside in
    let e : suc p ≡ k = omega arith in
    let rest : drop p steps ≡ s ∷ drop k steps = drop-cons steps p d inside ∙ ap (λ (i : ℕ). s ∷ drop i steps) e in
    let grows = λ (n : ℕ) (t : IsTrue (N n)). (more n).1 (inl t) in
    record {
      sound = λ n t. elim ((more n).0 t) [
        | inl q ↦ back.sound n q
        | inr q ↦ λ S supported held. supported p s at (back.sound s.node here S supported held) n q
      ];
      held = grows node back.held;
      begun = begun_more node N N' kept s here back.begun;
      explained = λ I A ok.
          let was = back.explained I A ok in
          let before = (explained_at c I A steps p s ok at).1 in
          let later = λ (j : ℕ) (step : Step) (past : k ≤ j) (h : slice_get steps j ≡ Some step) (t : IsTrue (N' step.node)). later_needed c I A steps p j s step N N' ok before more (omega arith) h t in
          let same : filter (keeps N') (drop k steps) ≡ filter (keeps N) (drop k steps) = filter_same N N' (drop k steps) (λ j step h. same_test (N step.node) (N' step.node) (grows step.node) (λ t. later (k + j) step (omega arith) (slice_get-drop steps k j step h) t)) in
          let yet : filter (keeps N') (s ∷ drop k steps) ≡ s ∷ filter (keeps N') (drop k steps) = (let t : IsTrue (N' s.node) = grows s.node here in rw t refl) in
          record {
            listing = reverse-append kept (s ∷ []) ∙ (ap (λ (xs : List Step). s ∷ xs) (was.listing ∙ sym same) ∙ sym (ap (filter (keeps N')) rest ∙ yet));
            supported = λ j step past h t m lean. elim (cases_eq j p) [
              | inl q ↦ (more m).1 (inr (subst (λ (x : Step). Leans c x.reason m) (sym (at_same steps p j d step q inside h)) lean))
              | inr q ↦ let far : k ≤ j = omega arith in grows m (was.supported j step far h (later j step far h t) m lean)
            ];
          };
    }

step_of : (steps : List Step) (n : ℕ) → IsTrue (is_in (nodes_of steps) n) → (k : ℕ) × (step : Step) × (slice_get steps k ≡ Some step) × (step.node ≡ n)
step_of [] n t = absurd (clash t refl)
step_of (s ∷ steps) n t =
    elim (or_cases (s.node == n) (is_in (nodes_of steps) n) t) [
      | inl p ↦ (0, s, refl, eqb-true s.node n p)
      | inr p ↦ let r = step_of steps n p in (suc r.0, r.1, r.2, r.3)
    ]

-- After all steps were read, the needed nodes are a supported set.
supported_all : (c : Content) (steps : List Step) (N : ℕ → Bool) (kept : List Step) → IsKept c steps 0 N kept → IsSupported c steps N
supported_all c steps N kept was = λ k step h t m lean. was.supported k step (omega arith) h t m lean

last_of : (node : ℕ) (N : ℕ → Bool) (s : Step) (kept : List Step) → IsBegun node N (s ∷ kept) → (before : List Step) × (step : Step) × (reverse (s ∷ kept) ≡ before ++ step ∷ []) × (step.node ≡ node)
last_of node N s kept begun = (reverse kept, s, reverse-append (s ∷ []) kept, begun)

pub back_why : (c : Content) (I : ℕ → Bool) (A : ℕ → Half → Bool) (steps : List Step) (node : ℕ) (N : ℕ → Bool) (s : Step) (kept : List Step) → IsExplanation c I A steps → IsBack c steps node 0 N (s ∷ kept) → IsWhy c I A steps node (reverse (s ∷ kept))
back_why c I A steps node N s kept ok back =
    let was = back.explained I A ok in
    let supported = supported_all c steps N (s ∷ kept) was in
    let listing : reverse (s ∷ kept) ≡ filter (keeps N) steps = was.listing in
    record {
      explanation = subst (λ (xs : List Step). IsExplanation c I A xs) (sym listing) (explained_part c I A N steps ok supported);
      last = last_of node N s kept back.begun;
      rests = N;
      part = listing;
      exactly = λ n. (back.sound n, λ rests. rests N supported back.held);
    }

-- If no step was kept, the node isn't listed.
pub back_unlisted : (c : Content) (I : ℕ → Bool) (A : ℕ → Half → Bool) (steps : List Step) (node : ℕ) (N : ℕ → Bool) → IsExplanation c I A steps → IsBack c steps node 0 N [] → IsFalse (is_in (nodes_of steps) node)
back_unlisted c I A steps node N ok back =
    let was = back.explained I A ok in
    let listing : [] ≡ filter (keeps N) steps = was.listing in
    not_true (is_in (nodes_of steps) node) (λ t.
    let kept : IsTrue (is_in (nodes_of (filter (keeps N) steps)) node) = filter_in N steps node ∙ and_intro (N node) (is_in (nodes_of steps) node) back.held t in
    clash (subst (λ (xs : List Step). IsTrue (is_in (nodes_of xs) node)) (sym listing) kept) refl)

-- Each node of an explanation is below the number of nodes.
pub listed_node : (c : Content) (I : List Bool) (A : ℕ → Half → Bool) (steps : List Step) (n : ℕ) → EndsAreNodes c → length I ≡ c.nodes → IsExplanation c (has I) A steps → IsTrue (is_in (nodes_of steps) n) → n < c.nodes
listed_node c I A steps n ends size ok t =
    let at = step_of steps n t in
    let r = reason_node c (has I) A (nodes_of (take at.0 steps)) at.1.node at.1.reason ends (λ k i. let q = has_within I k i in omega arith) (explained_at c (has I) A steps at.0 at.1 ok at.2).1 in
    omega (arith, at.3)

pub back_kept : (c : Content) (I : ℕ → Bool) (A : ℕ → Half → Bool) (steps : List Step) (node : ℕ) (N : ℕ → Bool) (kept : List Step) → (length kept ≡ 0 → ⊥) → IsExplanation c I A steps → IsBack c steps node 0 N kept → IsWhy c I A steps node (reverse kept)
back_kept c I A steps node N [] full ok back = absurd (full refl)
back_kept c I A steps node N (s ∷ kept) full ok back = back_why c I A steps node N s kept ok back

pub back_empty : (c : Content) (I : ℕ → Bool) (A : ℕ → Half → Bool) (steps : List Step) (node : ℕ) (N : ℕ → Bool) (kept : List Step) → length kept ≡ 0 → IsExplanation c I A steps → IsBack c steps node 0 N kept → IsFalse (is_in (nodes_of steps) node)
back_empty c I A steps node N [] empty ok back = back_unlisted c I A steps node N ok back
back_empty c I A steps node N (s ∷ kept) empty ok back = absurd (omega arith)
