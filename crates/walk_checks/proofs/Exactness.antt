-- Explanations that leave nothing out, as far as a check has read.
use Rattle.std.proofs.Common.{◌≡◌, ℕ, zero, suc, ◌+◌, ◌<◌, ◌≤◌, Bool, ◌||◌, not, List, [], ◌∷◌, ◌++◌, Some, None, length, take, refl, sym, ◌∙◌, ap, subst, inl, inr, arith, add-one}
use Rattle.std.specs.Prelude.{IsTrue, IsFalse, slice_get, slice_index_or, ◌==◌, ◌↔◌}
use Rattle.std.proofs.lemmas.Bool.{eqb-true, eq-eqb}
use Rattle.std.proofs.lemmas.Option.{slice_get_within, slice_get-get_or}
use Rattle.walk_engine.specs.declared.walks.Half.{Half}
use Rattle.walk_engine.specs.declared.walks.Step.{Step}
use Rattle.walk_engine.specs.Walks.{Content, Way, IsWay, is_in, starting, Least}
use Rattle.walk_engine.specs.Explanations.{IsReason, IsExplanation, nodes_of}
use Rattle.walk_engine.specs.Laws.{every}
use Rattle.walk_checks.specs.declared.refusals.Refusals.{Refusals}
use Rattle.walk_checks.specs.Exact.{is_refused, all_but, IsExact}
use Rattle.walk_checks.specs.inner.Tests.{has_mark, unmarked, Keeps, KeepsReason, NamesOnly}
use borrow.Author.Count.{below_more}
use Rattle.walk_checks.proofs.Bools.{or_cases}
use Rattle.walk_checks.proofs.Numbers.{is_in-append, is_in_at, take_snoc, snoc_cases, number_place, number_way}
use Rattle.walk_checks.proofs.Steps.{nodes_more, node_at, explained_snoc, explained_only, explained_grows, names_only, explained_in}

-- The first `i + 1` steps are the first `i` and one more.
pub take_step : (steps : List Step) (i : ℕ) (d : Step) → i < length steps → take (i + 1) steps ≡ take i steps ++ slice_index_or steps i d ∷ []
take_step steps i d l = rw add-one (take_snoc steps i (slice_index_or steps i d) (slice_get-get_or steps i d l))

pub explained_step : (c : Content) (I : ℕ → Bool) (steps : List Step) (i : ℕ) (d : Step) → i < length steps → IsExplanation c I every (take i steps) → IsFalse (is_in (nodes_of (take i steps)) (slice_index_or steps i d).node) → IsReason c I every (nodes_of (take i steps)) (slice_index_or steps i d).node (slice_index_or steps i d).reason → IsExplanation c I every (take (i + 1) steps)
explained_step c I steps i d l ok new reason = subst (λ (xs : List Step). IsExplanation c I every xs) (sym (take_step steps i d l)) (explained_snoc c I every (take i steps) (slice_index_or steps i d) ok new reason)

pub listed_step : (steps : List Step) (i : ℕ) (d : Step) (n : ℕ) → i < length steps → is_in (nodes_of (take (i + 1) steps)) n ≡ (is_in (nodes_of (take i steps)) n || ((slice_index_or steps i d).node == n))
listed_step steps i d n l = ap (λ (xs : List Step). is_in (nodes_of xs) n) (take_step steps i d l) ∙ (ap (λ (xs : List ℕ). is_in xs n) (nodes_more (take i steps) (slice_index_or steps i d)) ∙ is_in-append (nodes_of (take i steps)) (slice_index_or steps i d).node n)

-- One more step names no refused offer.
pub spared_step : (A : ℕ → Half → Bool) (steps : List Step) (i : ℕ) (d : Step) → i < length steps → NamesOnly A (take i steps) → KeepsReason A (slice_index_or steps i d).reason → NamesOnly A (take (i + 1) steps)
spared_step A steps i d l earlier now =
    subst (NamesOnly A) (sym (take_step steps i d l)) (λ k step h. elim (snoc_cases (take i steps) (slice_index_or steps i d) k step h) [
      | inl p ↦ earlier k step p
      | inr p ↦ subst (λ (s : Step). KeepsReason A s.reason) p.1 now
    ])

-- All edges of a node are kept if each one read is.
pub kept_all : (c : Content) (A : ℕ → Half → Bool) (L : ℕ → Bool) (node q : ℕ) → ((k : ℕ) → k < q → (e : ℕ) → slice_get (starting c node) k ≡ Some e → (w : Way) → IsWay c e w → Keeps A L e w) → ((k e : ℕ) → k ≤ e → e < length c.ways → slice_get (starting c node) k ≡ Some e → k < q) → (e : ℕ) (w : Way) → IsWay c e w → w.start ≡ node → Keeps A L e w
kept_all c A L node q passed within e w is start =
    let r = number_place (λ (v : Way). v.start == node) 0 c.ways e w is (eq-eqb w.start node start) in
    let same : 0 + e ≡ e = omega arith in
    let here : slice_get (starting c node) r.0 ≡ Some e = r.2 ∙ ap Some same in
    passed r.0 (within r.0 e r.1 (slice_get_within c.ways e w is) here) e here w is

none_past : {X : Type 0} (xs : List X) (q : ℕ) → slice_get xs q ≡ None → (k : ℕ) (x : X) → slice_get xs k ≡ Some x → k < q
none_past [] q h k x p = absurd (cc)
none_past (y ∷ xs) zero h k x p = absurd (cc)
none_past (y ∷ xs) (suc q) h zero x p = omega arith
none_past (y ∷ xs) (suc q) h (suc k) x p = let r = none_past xs q h k x p in omega arith

pub kept_until : (c : Content) (A : ℕ → Half → Bool) (L : ℕ → Bool) (node q : ℕ) → slice_get (starting c node) q ≡ None → ((k : ℕ) → k < q → (e : ℕ) → slice_get (starting c node) k ≡ Some e → (w : Way) → IsWay c e w → Keeps A L e w) → (e : ℕ) (w : Way) → IsWay c e w → w.start ≡ node → Keeps A L e w
kept_until c A L node q past passed = kept_all c A L node q passed (λ k e _ _ here. none_past (starting c node) q past k e here)

pub kept_whole : (c : Content) (A : ℕ → Half → Bool) (L : ℕ → Bool) (node q : ℕ) → length c.ways ≤ q → ((k : ℕ) → k < q → (e : ℕ) → slice_get (starting c node) k ≡ Some e → (w : Way) → IsWay c e w → Keeps A L e w) → (e : ℕ) (w : Way) → IsWay c e w → w.start ≡ node → Keeps A L e w
kept_whole c A L node q long passed = kept_all c A L node q passed (λ k e below inside here. omega arith)

-- Each edge in the list of a node's edges starts at the node.
pub starts_at : (c : Content) (node k e : ℕ) → slice_get (starting c node) k ≡ Some e → (w : Way) × IsWay c e w × (w.start ≡ node)
starts_at c node k e h =
    let n = number_way (λ (v : Way). v.start == node) 0 c.ways k e h in
    let same : n.0 ≡ e = omega arith in
    (n.2.0, subst (λ (i : ℕ). slice_get c.ways i ≡ Some n.2.0) same n.2.1, eqb-true n.2.0.start node n.2.2)

kept_more_at : (c : Content) (A : ℕ → Half → Bool) (L : ℕ → Bool) (node q e : ℕ) → slice_get (starting c node) q ≡ Some e → ((w : Way) → IsWay c e w → Keeps A L e w) → (f : ℕ) → slice_get (starting c node) q ≡ Some f → (w : Way) → IsWay c f w → Keeps A L f w
kept_more_at c A L node q e h now f g = let same : e ≡ f = (let r : Some e ≡ Some f = sym h ∙ g in cc) in subst (λ (i : ℕ). (w : Way) → IsWay c i w → Keeps A L i w) same now

pub kept_more : (c : Content) (A : ℕ → Half → Bool) (L : ℕ → Bool) (node q e : ℕ) → slice_get (starting c node) q ≡ Some e → ((w : Way) → IsWay c e w → Keeps A L e w) → ((k : ℕ) → k < q → (f : ℕ) → slice_get (starting c node) k ≡ Some f → (w : Way) → IsWay c f w → Keeps A L f w) → (k : ℕ) → k < q + 1 → (f : ℕ) → slice_get (starting c node) k ≡ Some f → (w : Way) → IsWay c f w → Keeps A L f w
kept_more c A L node q e h now earlier = below_more (λ k. (f : ℕ) → slice_get (starting c node) k ≡ Some f → (w : Way) → IsWay c f w → Keeps A L f w) q earlier (kept_more_at c A L node q e h now)

-- The edges of one more step's node are kept.
pub closed_step : (c : Content) (A : ℕ → Half → Bool) (L : ℕ → Bool) (steps : List Step) (i : ℕ) (d : Step) → i < length steps → ((e : ℕ) (w : Way) → IsWay c e w → IsTrue (is_in (nodes_of (take i steps)) w.start) → Keeps A L e w) → ((e : ℕ) (w : Way) → IsWay c e w → w.start ≡ (slice_index_or steps i d).node → Keeps A L e w) → (e : ℕ) (w : Way) → IsWay c e w → IsTrue (is_in (nodes_of (take (i + 1) steps)) w.start) → Keeps A L e w
closed_step c A L steps i d l earlier now e w is t =
    elim (or_cases (is_in (nodes_of (take i steps)) w.start) ((slice_index_or steps i d).node == w.start) (sym (listed_step steps i d w.start l) ∙ t)) [
      | inl p ↦ earlier e w is p
      | inr p ↦ now e w is (sym (eqb-true (slice_index_or steps i d).node w.start p))
    ]

-- The node of a step is listed.
pub step_listed : (steps : List Step) (i : ℕ) (d : Step) → i < length steps → IsTrue (is_in (nodes_of steps) (slice_index_or steps i d).node)
step_listed steps i d l = is_in_at (nodes_of steps) i (slice_index_or steps i d).node (node_at steps i (slice_index_or steps i d) (slice_get-get_or steps i d l))

-- The marks are the refused offers, for all edges that exist.
abbrev pub MarksAre : Content → Refusals → List (ℕ × Half) → Type 0
MarksAre c r refused = (e : ℕ) (h : Half) → e < length c.ways → has_mark r e h ≡ is_refused refused e h

marks_at : (c : Content) (r : Refusals) (refused : List (ℕ × Half)) → MarksAre c r refused → (e : ℕ) (h : Half) (w : Way) → IsWay c e w → unmarked r e h ≡ all_but refused e h
marks_at c r refused marks e h w is = ap not (marks e h (slice_get_within c.ways e w is))

-- The four parts of a check make an exact explanation.
pub exact_by : (c : Content) (I : ℕ → Bool) (L : ℕ → Bool) (r : Refusals) (refused : List (ℕ × Half)) (steps : List Step) → MarksAre c r refused → IsExplanation c I every steps → ((n : ℕ) → L n ≡ is_in (nodes_of steps) n) → NamesOnly (unmarked r) steps → ((n : ℕ) → IsTrue (I n) → IsTrue (L n)) → ((e : ℕ) (w : Way) → IsWay c e w → IsTrue (L w.start) → Keeps (unmarked r) L e w) → IsExact c I refused steps
exact_by c I L r refused steps marks ok listed spared initial closed =
    let out = λ (n : ℕ) (t : IsTrue (is_in (nodes_of steps) n)). listed n ∙ t in
    let into = λ (n : ℕ) (t : IsTrue (L n)). sym (listed n) ∙ t in
    let mine : IsExplanation c I (unmarked r) steps = explained_only c I every (unmarked r) steps ok spared in
    record {
      explanation = explained_grows c I (unmarked r) (all_but refused) steps (λ e h w is t. sym (marks_at c r refused marks e h w is) ∙ t) mine;
      closed = record {
        initial = λ n i. into n (initial n i);
        unasked = λ e w is ask s. into w.far ((closed e w is (out w.start s)).unasked ask);
        offered = λ e h w is half a s g. into w.far ((closed e w is (out w.start s)).offered h half (marks_at c r refused marks e h w is ∙ a) (λ q. out w.gate (g q)));
      };
    }

-- An exact explanation meets the four parts.
pub exact_explained : (c : Content) (I : ℕ → Bool) (refused : List (ℕ × Half)) (steps : List Step) → IsExact c I refused steps → IsExplanation c I every steps
exact_explained c I refused steps ok = explained_grows c I (all_but refused) every steps (λ _ _ _ _ _. refl) ok.explanation

pub exact_spared : (c : Content) (I : ℕ → Bool) (r : Refusals) (refused : List (ℕ × Half)) (steps : List Step) → MarksAre c r refused → IsExact c I refused steps → NamesOnly (unmarked r) steps
exact_spared c I r refused steps marks ok = names_only c I (all_but refused) (unmarked r) steps (λ e h w is t. marks_at c r refused marks e h w is ∙ t) ok.explanation

pub exact_initial : (c : Content) (I : ℕ → Bool) (L : ℕ → Bool) (refused : List (ℕ × Half)) (steps : List Step) → ((n : ℕ) → L n ≡ is_in (nodes_of steps) n) → IsExact c I refused steps → (n : ℕ) → IsTrue (I n) → IsTrue (L n)
exact_initial c I L refused steps listed ok n i = listed n ∙ ok.closed.initial n i

pub exact_closed : (c : Content) (I : ℕ → Bool) (L : ℕ → Bool) (r : Refusals) (refused : List (ℕ × Half)) (steps : List Step) → MarksAre c r refused → ((n : ℕ) → L n ≡ is_in (nodes_of steps) n) → IsExact c I refused steps → (e : ℕ) (w : Way) → IsWay c e w → IsTrue (L w.start) → Keeps (unmarked r) L e w
exact_closed c I L r refused steps marks listed ok e w is s =
    let out = λ (n : ℕ) (t : IsTrue (is_in (nodes_of steps) n)). listed n ∙ t in
    let into = λ (n : ℕ) (t : IsTrue (L n)). sym (listed n) ∙ t in
    record {
      unasked = λ ask. out w.far (ok.closed.unasked e w is ask (into w.start s));
      offered = λ h half a g. out w.far (ok.closed.offered e h w is half (sym (marks_at c r refused marks e h w is) ∙ a) (into w.start s) (λ q. into w.gate (g q)));
    }

-- The nodes of an exact explanation are the least set.
pub exact_least : (c : Content) (I : ℕ → Bool) (refused : List (ℕ × Half)) (steps : List Step) → IsExact c I refused steps → (n : ℕ) → IsTrue (is_in (nodes_of steps) n) ↔ Least c I (all_but refused) n
exact_least c I refused steps ok n =
    (λ t S closed. explained_in c I (all_but refused) S steps ok.explanation closed n t, λ least. least (is_in (nodes_of steps)) ok.closed)
