use Rattle.std.proofs.Common.{◌≡◌, ℕ, zero, suc, ◌≤◌, Bool, true, false, ◌||◌, List, [], ◌∷◌, ◌++◌, Some, None, length, take, refl, sym, ◌∙◌, ap, subst, inl, inr, arith, append_assoc}
use Rattle.std.specs.Prelude.{IsTrue, IsFalse, slice_get, ◌==◌}
use Rattle.std.proofs.Common.{Result, Ok, Err, OnErr}
use Rattle.std.proofs.lemmas.Bool.{eqb-true, eq-eqb}
use Rattle.std.proofs.lemmas.Bool.Decides.{eqb_tells}
use Rattle.std.proofs.lemmas.List.{append-nil}
use Rattle.walk_engine.specs.declared.walks.Half.{Half}
use Rattle.walk_engine.specs.declared.walks.Ask.{Ask}
use Rattle.walk_engine.specs.declared.walks.Ask.TheVariants as asks
use Rattle.digraphs.specs.Bits.{has}
use Rattle.walk_engine.specs.Walks.{Content, Way, IsWay, is_gated, is_in}
use Rattle.walk_engine.specs.declared.walks.progress.Condition.{Condition}
use Rattle.walk_engine.specs.declared.walks.progress.Condition.TheVariants.{Start, Gate}
use Rattle.walk_engine.specs.declared.walks.StepReason.{StepReason}
use Rattle.walk_engine.specs.declared.walks.StepReason.TheVariants.{Offer}
use Rattle.walk_engine.specs.inner.WalkProgress.{Findings, noted, Asks, IsAt, Extends, at_node, edges_by, followed, taken_too, freed_too, FollowsEdge, FollowsAll, FollowsStopped}
use Rattle.walk_engine.proofs.Answered.{decide, clash, and_both}
use Rattle.walk_engine.proofs.WayNumbers.{number_way, numbers_distinct, not_before, is_in_at, take_is_in}
use Rattle.walk_engine.proofs.WalkMoves.{with_here}

pub extends_refl : (f : Findings) → Extends f f
extends_refl f = record { explains = refl; more = []; order = sym (append-nil f.order) }

pub extends_trans : (f g h : Findings) → Extends f g → Extends g h → Extends f h
extends_trans f g h p q = record {
  explains = q.explains ∙ p.explains;
  more = p.more ++ q.more;
  order = q.order ∙ (ap (λ (xs : List ℕ). xs ++ q.more) p.order ∙ append_assoc f.order p.more q.more);
}

pub extends_noted : (f : Findings) (n : ℕ) (r : StepReason) → Extends f (noted f n r)
extends_noted f n r = elim (decide (has f.members n)) [
  | inl t ↦ record { explains = refl; more = []; order = rw t (sym (append-nil f.order)) }
  | inr u ↦ record { explains = refl; more = n ∷ []; order = rw u refl }
]

pub extends_asks : {O : Type 0} (gives : O → ℕ → Half → Bool → O → Type 0) (want : Bool) (e : ℕ) (h : Half) (far : ℕ) (s : O) (f : Findings) (t : O) (g : Findings) → Asks gives want e h far s f t g → Extends f g
extends_asks gives false e h far s f t g (p, q) = subst (Extends f) (sym q) (extends_refl f)
extends_asks gives true e h far s f t g (true, step, q) = subst (Extends f) (sym q) (extends_noted f far (Offer e h))
extends_asks gives true e h far s f t g (false, step, q) = subst (Extends f) (sym q) (record { explains = refl; more = []; order = sym (append-nil f.order) })

-- Only the ask of a weak edge waits for a gate.
pub gated_weak : (ask : Ask) → IsTrue (is_gated ask) → (required : Bool) × (ask ≡ asks.Weak required true)
gated_weak asks.Nobody q = absurd (clash q refl)
gated_weak asks.Full q = absurd (clash q refl)
gated_weak (asks.Weak required gated) q = (required, ap (asks.Weak required) q)

or_swap : (a b c d : Bool) → d ≡ a → (a || (b || c)) ≡ ((b || d) || c)
or_swap true true c d p = refl
or_swap true false c d p = rw p refl
or_swap false true c d p = refl
or_swap false false c d p = rw p refl

pub eqb_swap : (a b : ℕ) → (a == b) ≡ (b == a)
eqb_swap a b = elim (eqb_tells a b) [
  | inl p ↦ p.0 ∙ sym (eq-eqb b a (sym p.1))
  | inr p ↦ p.0 ∙ sym (elim (decide (b == a)) [ inl t ↦ absurd (p.1 (sym (eqb-true b a t))) | inr f ↦ f ])
]

or_none : (a b : Bool) → IsFalse a → IsFalse b → IsFalse (a || b)
or_none true b p q = p
or_none false b p q = q

module _ {O : Type 0} (c : Content) (gives : O → ℕ → Half → Bool → O → Type 0) where
  -- The invariant depends on `T` and `G` only at edges.
  pub at_same : (I : ℕ → Bool) (s0 : O) (T G T' G' : ℕ → Bool) (s : O) (f : Findings) (met : List Bool) → ((e : ℕ) (w : Way) → IsWay c e w → T' e ≡ T e) → ((e : ℕ) (w : Way) → IsWay c e w → G' e ≡ G e) → IsAt c I gives s0 T G s f met → IsAt c I gives s0 T' G' s f met
  at_same I s0 T G T' G' s f met p q at' =
      record {
        run = at'.run;
        core = at'.core;
        accepted = at'.accepted;
        started = λ e w is t. at'.started e w is (sym (p e w is) ∙ t);
        freed = λ e w is t. at'.freed e w is (sym (q e w is) ∙ t);
        unasked = λ e w is a t. at'.unasked e w is a (sym (p e w is) ∙ t);
        made = λ e h w is given. rw (p e w is, q e w is) (at'.made e h w is given);
        came = λ e w is g. rw (p e w is, q e w is) (at'.came e w is g);
      }

  -- An edge that isn't among those followed stays new.
  fresh_with : (by : Condition) (more T G : ℕ → Bool) (e : ℕ) → IsFalse (more e) → IsFalse (followed by T G e) → IsFalse (followed by (taken_too by more T) (freed_too by more G) e)
  fresh_with Start more T G e out new = or_none (more e) (T e) out new
  fresh_with Gate more T G e out new = or_none (more e) (G e) out new

  taken_none : (by : Condition) (T : ℕ → Bool) (e : ℕ) → taken_too by (λ k. false) T e ≡ T e
  taken_none Start T e = refl
  taken_none Gate T e = refl

  freed_none : (by : Condition) (G : ℕ → Bool) (e : ℕ) → freed_too by (λ k. false) G e ≡ G e
  freed_none Start G e = refl
  freed_none Gate G e = refl

  one_more : (more more' T : ℕ → Bool) (e k : ℕ) → more' k ≡ (more k || (e == k)) → (more' k || T k) ≡ ((k == e) || (more k || T k))
  one_more more more' T e k p = rw p (sym (or_swap (k == e) (more k) (T k) (e == k) (eqb_swap e k)))

  taken_more : (by : Condition) (more more' T : ℕ → Bool) (e k : ℕ) → more' k ≡ (more k || (e == k)) → taken_too by more' T k ≡ taken_too by (λ j. j == e) (taken_too by more T) k
  taken_more Start more more' T e k p = one_more more more' T e k p
  taken_more Gate more more' T e k p = refl

  freed_more : (by : Condition) (more more' G : ℕ → Bool) (e k : ℕ) → more' k ≡ (more k || (e == k)) → freed_too by more' G k ≡ freed_too by (λ j. j == e) (freed_too by more G) k
  freed_more Start more more' G e k p = refl
  freed_more Gate more more' G e k p = one_more more more' G e k p

  -- The node of an edge that was followed is a member.
  node_there : (by : Condition) (node e : ℕ) (w : Way) (I : ℕ → Bool) (s0 : O) (T G : ℕ → Bool) (u : O) (h : Findings) (met : List Bool) → IsWay c e w → IsTrue (at_node by node w) → IsAt c I gives s0 (taken_too by (λ k. k == e) T) (freed_too by (λ k. k == e) G) u h met → IsTrue (has h.members node)
  node_there Start node e w I s0 T G u h met is pass at' = subst (λ (n : ℕ). IsTrue (has h.members n)) (eqb-true w.start node pass) (at'.started e w is (with_here c I gives s0 T e))
  node_there Gate node e w I s0 T G u h met is pass at' = subst (λ (n : ℕ). IsTrue (has h.members n)) (eqb-true w.gate node (and_both (is_gated w.ask) (w.gate == node) pass).1) (at'.freed e w is (with_here c I gives s0 G e))

  module _ (by : Condition) (node : ℕ) (s : O) (f : Findings) (met : List Bool) where
    -- The edges up to a place are followed.
    abbrev pub FollowsFirst : ℕ → O → Findings → List Bool → Type 0
    FollowsFirst place t g met' = FollowsAll by (take place (edges_by by c node)) c gives node s f met t g met'

    pub follows_none : FollowsFirst 0 s f met
    follows_none I s0 T G new st at' = (st, at_same I s0 T G (taken_too by (λ e. false) T) (freed_too by (λ e. false) G) s f met (λ e w is. taken_none by T e) (λ e w is. freed_none by G e) at')

    pub follows_more : (place : ℕ) (t : O) (g : Findings) (met' : List Bool) (u : O) (h : Findings) (met'' : List Bool) (e : ℕ) → FollowsFirst place t g met' → slice_get (edges_by by c node) place ≡ Some e → FollowsEdge by c gives node e t g met' u h met'' → FollowsFirst (suc place) u h met''
    follows_more place t g met' u h met'' e first here edge I s0 T G new st at' =
        let before = first I s0 T G new st at' in
        let xs = edges_by by c node in
        let some = is_in (take place xs) in
        let fresh = fresh_with by some T G e (not_before xs place e (numbers_distinct (at_node by node) 0 c.ways) here) (new e (is_in_at xs place e here)) in
        let after = edge I s0 (taken_too by some T) (freed_too by some G) fresh before.0 before.1 in
        let way = number_way (at_node by node) 0 c.ways place e here in
        let same : way.0 ≡ e = omega arith in
        let is : IsWay c e way.2.0 = subst (λ (i : ℕ). slice_get c.ways i ≡ Some way.2.0) same way.2.1 in (
          node_there by node e way.2.0 I s0 (taken_too by some T) (freed_too by some G) u h met'' is way.2.2 after,
          at_same I s0 (taken_too by (λ k. k == e) (taken_too by some T)) (freed_too by (λ k. k == e) (freed_too by some G)) (taken_too by (is_in (take (suc place) xs)) T) (freed_too by (is_in (take (suc place) xs)) G) u h met''
              (λ k w is. taken_more by some (is_in (take (suc place) xs)) T e k (take_is_in xs place e k here))
              (λ k w is. freed_more by some (is_in (take (suc place) xs)) G e k (take_is_in xs place e k here))
              after,
        )

    pub follows_whole : (place : ℕ) (t : O) (g : Findings) (met' : List Bool) → FollowsFirst place t g met' → take place (edges_by by c node) ≡ edges_by by c node → FollowsAll by (edges_by by c node) c gives node s f met t g met'
    follows_whole place t g met' first whole = subst (λ (xs : List ℕ). FollowsAll by xs c gives node s f met t g met') whole first

    -- If the walk stops between two edges, the calls made are a legal run.
    pub follows_stopped : (place : ℕ) (t : O) (g : Findings) (met' : List Bool) → FollowsFirst place t g met' → FollowsStopped by c gives node s f met t
    follows_stopped place t g met' first I s0 T G new st at' = let r = first I s0 T G new st at' in (r.1.run, r.1.core.calls, r.1.core.legal)

pub take-length : (xs : List ℕ) → take (length xs) xs ≡ xs
take-length [] = refl
take-length (x ∷ xs) = ap (λ (ys : List ℕ). x ∷ ys) (take-length xs)

past : {X : Type 0} (xs : List X) (k : ℕ) → slice_get xs k ≡ None → length xs ≤ k
past [] k h = omega arith
past (x ∷ xs) zero h = absurd (cc)
past (x ∷ xs) (suc k) h = let r = past xs k h in omega arith

pub whole_at : (xs : List ℕ) (k : ℕ) → k ≤ length xs → slice_get xs k ≡ None → (k ≡ length xs) × (take k xs ≡ xs)
whole_at xs k h n = let r : length xs ≤ k = past xs k n in let e : k ≡ length xs = omega arith in (e, rw e (take-length xs))

pub on_err : {T E P : Type 0} (r : Result T E) → P → OnErr r P
on_err (Ok x) p = tt
on_err (Err e) p = p
