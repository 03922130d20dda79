use Rattle.std.proofs.Common.{ℕ, Bool, ◌&&◌, List, [], ◌∷◌, refl, sym, ◌∙◌, subst, inl, inr}
use Rattle.std.specs.Prelude.{IsTrue, IsFalse, ◌↔◌}
use Rattle.walk_engine.specs.declared.walks.Half.{Half}
use Rattle.walk_engine.specs.declared.walks.Half.TheVariants.{Full, Required, Optional}
use Rattle.walk_engine.specs.declared.walks.Ask.{Ask}
use Rattle.walk_engine.specs.declared.walks.Ask.TheVariants as asks
use Rattle.walk_engine.specs.Walks.{Content, Way, Call, IsWay, has_half, has_gate, has_turn, Reach, was_made, was_accepted, is_of, IsDue, IsLegal, IsComplete, Agrees, IsClosed, Least, GoesAlong}
use Rattle.walk_engine.specs.Laws.{AnswersBy}
use Rattle.walk_engine.proofs.Answered.{decide, or_cases, or_left, or_right, and_both, and_intro, clash, is_of_same}
use Rattle.walk_engine.proofs.Reaches.{same_way, reach_more, reach_in, open_cases, open_by, open_nobody}

-- The far end of each accepted offer of a legal run is in each closed set of offers that agree with the run.
pub accepted_in : (c : Content) (I : ℕ → Bool) (A : ℕ → Half → Bool) (S : ℕ → Type 0) → IsClosed c I A S → (run : List Call) → IsLegal c I run → Agrees A run → (e : ℕ) (h : Half) (w : Way) → IsTrue (was_accepted run e h) → IsWay c e w → S w.far
accepted_in c I A S closed [] legal agrees e h w t is = absurd (clash t refl)
accepted_in c I A S closed (call ∷ before) (due, legal) (agree, agrees) e h w t is =
    let earlier = accepted_in c I A S closed before legal agrees in
    let into = reach_in c I (was_accepted before) S closed.initial (λ f v isv op s. elim (open_cases (was_accepted before) f v.ask op) [
      | inl p ↦ closed.unasked f v isv p s
      | inr p ↦ earlier f p.0 v p.2 isv
    ]) in
    elim (or_cases (is_of call e h && call.answer) (was_accepted before e h) t) [
      | inl p ↦
          let both = and_both (is_of call e h) call.answer p in
          let same = is_of_same call e h both.0 in
          let here : S due.way.far = closed.offered call.edge call.half due.way due.is_way due.half (agree ∙ both.1) (into due.way.start due.start) (λ g. into due.way.gate (due.gate g)) in
          let is' : IsWay c e due.way = subst (λ (k : ℕ). IsWay c k due.way) same.0 due.is_way in
          subst (λ (v : Way). S v.far) (same_way c e due.way w is' is) here
      | inr p ↦ earlier e h w p is
    ]

-- Each node that a legal run reached is in each closed set of offers that agree with the run.
pub reach_closed : (c : Content) (I : ℕ → Bool) (A : ℕ → Half → Bool) (S : ℕ → Type 0) → IsClosed c I A S → (run : List Call) → IsLegal c I run → Agrees A run → (n : ℕ) → Reach c I (was_accepted run) n → S n
reach_closed c I A S closed run legal agrees =
    reach_in c I (was_accepted run) S closed.initial (λ f v isv op s. elim (open_cases (was_accepted run) f v.ask op) [
      | inl p ↦ closed.unasked f v isv p s
      | inr p ↦ accepted_in c I A S closed run legal agrees f p.0 v p.2 isv
    ])

-- An offer that was made and is in `A` was accepted.
pub made_accepted : (A : ℕ → Half → Bool) (run : List Call) → Agrees A run → (e : ℕ) (h : Half) → IsTrue (was_made run e h) → IsTrue (A e h) → IsTrue (was_accepted run e h)
made_accepted A [] agrees e h t a = absurd (clash t refl)
made_accepted A (call ∷ before) (agree, agrees) e h t a =
    elim (or_cases (is_of call e h) (was_made before e h) t) [
      | inl p ↦
          let same = is_of_same call e h p in
          let yes : IsTrue call.answer = sym agree ∙ (subst (λ (k : Half). IsTrue (A call.edge k)) (sym same.1) (subst (λ (k : ℕ). IsTrue (A k h)) (sym same.0) a)) in
          or_left (is_of call e h && call.answer) (was_accepted before e h) (and_intro (is_of call e h) call.answer p yes)
      | inr p ↦ or_right (is_of call e h && call.answer) (was_accepted before e h) (made_accepted A before agrees e h p a)
    ]

pub no_gate : (ask : Ask) → IsTrue (has_gate ask Required) → ⊥
no_gate asks.Nobody t = clash t refl
no_gate asks.Full t = clash t refl
no_gate (asks.Weak required gated) t = clash t refl

-- A required half that was never offered is due.
pub required_due : (c : Content) (I : ℕ → Bool) (run : List Call) (e : ℕ) (w : Way) → IsWay c e w → IsTrue (has_half w.ask Required) → Reach c I (was_accepted run) w.start → IsFalse (was_made run e Required) → IsDue c I run e Required
required_due c I run e w is half start fresh =
    record { way = w; is_way = is; half = half; start = start; gate = λ t. absurd (no_gate w.ask t); fresh = fresh; turn = λ t. absurd (clash t refl) }

-- After a complete run, each offer whose start and gate are reached was made.
pub due_made : (c : Content) (I : ℕ → Bool) (run : List Call) → IsComplete c I run → (e : ℕ) (h : Half) (w : Way) → IsWay c e w → IsTrue (has_half w.ask h) → Reach c I (was_accepted run) w.start → (IsTrue (has_gate w.ask h) → Reach c I (was_accepted run) w.gate) → (IsTrue (has_turn w.ask h) → IsTrue (was_made run e Required)) → IsTrue (was_made run e h)
due_made c I run complete e h w is half start gate turn =
    elim (decide (was_made run e h)) [
      | inl p ↦ p
      | inr p ↦ absurd (complete e h (record { way = w; is_way = is; half = half; start = start; gate = gate; fresh = p; turn = turn }))
    ]

pub all_made : (c : Content) (I : ℕ → Bool) (run : List Call) → IsComplete c I run → (e : ℕ) (h : Half) (w : Way) → IsWay c e w → IsTrue (has_half w.ask h) → Reach c I (was_accepted run) w.start → (IsTrue (has_gate w.ask h) → Reach c I (was_accepted run) w.gate) → IsTrue (was_made run e h)
all_made c I run complete e Full w is half start gate = due_made c I run complete e Full w is half start gate (λ t. absurd (clash t refl))
all_made c I run complete e Required w is half start gate = due_made c I run complete e Required w is half start gate (λ t. absurd (clash t refl))
all_made c I run complete e Optional w is half start gate =
    due_made c I run complete e Optional w is half start gate (λ t. due_made c I run complete e Required w is t start (λ g. absurd (no_gate w.ask g)) (λ u. absurd (clash u refl)))

-- The reach of a complete run is closed for all offers that agree with it.
pub closed_reach : (c : Content) (I : ℕ → Bool) (A : ℕ → Half → Bool) (run : List Call) → IsComplete c I run → Agrees A run → IsClosed c I A (Reach c I (was_accepted run))
closed_reach c I A run complete agrees =
    record {
      initial = λ n i. (n, [], i, refl);
      unasked = λ e w is p s. reach_more c I (was_accepted run) e w is (open_nobody (was_accepted run) e w.ask p) s;
      offered = λ e h w is half a s g. reach_more c I (was_accepted run) e w is (open_by (was_accepted run) e w.ask h half (made_accepted A run agrees e h (all_made c I run complete e h w is half s g) a)) s;
    }

-- The reach of a complete legal run is the least closed set.
pub members_least : (c : Content) (I : ℕ → Bool) (M : ℕ → Bool) (run : List Call) → IsLegal c I run → IsComplete c I run → ((n : ℕ) → IsTrue (M n) ↔ Reach c I (was_accepted run) n) → (A : ℕ → Half → Bool) → Agrees A run → (n : ℕ) → IsTrue (M n) ↔ Least c I A n
members_least c I M run legal complete members A agrees n =
    let closed = closed_reach c I A run complete agrees in
    let in_M = λ (k : ℕ) (r : Reach c I (was_accepted run) k). (members k).1 r in
    let out_M = λ (k : ℕ) (r : IsTrue (M k)). (members k).0 r in (
      λ t S cl. reach_closed c I A (λ k. IsTrue (S k)) cl run legal agrees n (out_M n t),
      λ l. l M (record {
        initial = λ k i. in_M k (closed.initial k i);
        unasked = λ e w is p s. in_M w.far (closed.unasked e w is p (out_M w.start s));
        offered = λ e h w is half a s g. in_M w.far (closed.offered e h w is half a (out_M w.start s) (λ t. out_M w.gate (g t)));
      }),
    )

-- If one set agrees with two runs, the second reached each node that the first did.
pub one_result_lem : (c : Content) (I : ℕ → Bool) (A : ℕ → Half → Bool) (run other : List Call) → IsLegal c I run → IsComplete c I other → Agrees A run → Agrees A other → (n : ℕ) → Reach c I (was_accepted run) n → Reach c I (was_accepted other) n
one_result_lem c I A run other legal complete agrees agrees' =
    reach_closed c I A (Reach c I (was_accepted other)) (closed_reach c I A other complete agrees') run legal agrees

-- If the answers are those of a test, the test agrees with the run.
pub agrees_along : {O : Type 0} (gives : O → ℕ → Half → Bool → O → Type 0) (A : ℕ → Half → Bool) (s : O) → AnswersBy gives A s → (run : List Call) (t : O) → GoesAlong gives s run t → Agrees A run
agrees_along gives A s answers [] t along = tt
agrees_along gives A s answers (call ∷ before) t (m, along, given) = (sym (answers before m t call.edge call.half call.answer along given), agrees_along gives A s answers before m along)
