-- Explained walks.
use Rattle.std.proofs.Common.{◌≡◌, ℕ, Bool, true, false, ◌||◌, ◌&&◌, not, List, [], ◌∷◌, ◌++◌, ◌+◌, ◌<◌, length, take, add-one, refl, sym, ◌∙◌, ap, subst, inl, inr}
use Rattle.std.specs.Prelude.{IsTrue, IsFalse, ◌==◌, ◌↔◌, slice_index_or}
use Rattle.std.proofs.lemmas.Bool.{eqb-true, eq-eqb}
use Rattle.walk_engine.specs.declared.walks.Half.{Half}
use Rattle.walk_engine.specs.declared.walks.Step.{Step}
use Rattle.walk_engine.specs.Walks.{Content, Call, is_of, is_half, was_made, was_accepted, IsLegal, Agrees, IsClosed, Least, is_in}
use Rattle.walk_engine.specs.Explanations.{IsExplainedWalk, nodes_of, refused_of}
use Rattle.walk_checks.specs.Exact.{is_refused, all_but, IsExact}
use Rattle.walk_checks.proofs.Bools.{decide, clash, or_cases, or_left, or_right, and_both, and_intro, not_true, is_half_same, is_half_refl}
use Rattle.walk_checks.proofs.Numbers.{take_snoc}
use Rattle.std.proofs.lemmas.Option.{slice_get-get_or}
use Rattle.walk_checks.proofs.Steps.{explained_grows}

or_none : (a : Bool) → a ≡ (a || false)
or_none true = refl
or_none false = refl

answer_is : (earlier answer same : Bool) → IsFalse earlier → IsTrue same → not (earlier || (not answer && same)) ≡ answer
answer_is false true same f t = refl
answer_is false false true f t = refl
answer_is false false false f t = absurd (clash t refl)
answer_is true answer same f t = absurd (clash refl f)

other_is : (earlier answer same : Bool) → IsFalse same → (earlier || (not answer && same)) ≡ earlier
other_is true answer same f = refl
other_is false true same f = refl
other_is false false same f = f

of_itself : (call : Call) → IsTrue (is_of call call.edge call.half)
of_itself call = and_intro (call.edge == call.edge) (is_half call.half call.half) (eq-eqb call.edge call.edge refl) (is_half_refl call.half)

is_refused-append : (xs : List (ℕ × Half)) (k : ℕ) (j : Half) (e : ℕ) (h : Half) → is_refused (xs ++ (k, j) ∷ []) e h ≡ (is_refused xs e h || ((k == e) && is_half j h))
is_refused-append [] k j e h = elim (decide ((k == e) && is_half j h)) [ inl p ↦ rw p refl | inr p ↦ rw p refl ]
is_refused-append (x ∷ xs) k j e h = elim (decide ((x.0 == e) && is_half x.1 h)) [ inl p ↦ rw p refl | inr p ↦ rw p (is_refused-append xs k j e h) ]

-- A call adds its offer to the refused ones exactly if the answer is false.
refused_call : (call : Call) (before : List Call) (e : ℕ) (h : Half) → is_refused (refused_of (call ∷ before)) e h ≡ (is_refused (refused_of before) e h || (not call.answer && is_of call e h))
refused_call call before e h =
    elim (decide call.answer) [
      | inl p ↦ rw p (or_none (is_refused (refused_of before) e h))
      | inr p ↦ rw p (is_refused-append (refused_of before) call.edge call.half e h)
    ]

refused_made : (run : List Call) (e : ℕ) (h : Half) → IsTrue (is_refused (refused_of run) e h) → IsTrue (was_made run e h)
refused_made [] e h t = absurd (clash t refl)
refused_made (call ∷ before) e h t =
    elim (or_cases (is_refused (refused_of before) e h) (not call.answer && is_of call e h) (sym (refused_call call before e h) ∙ t)) [
      | inl p ↦ or_right (is_of call e h) (was_made before e h) (refused_made before e h p)
      | inr p ↦ or_left (is_of call e h) (was_made before e h) (and_both (not call.answer) (is_of call e h) p).1
    ]

agrees_same : (A B : ℕ → Half → Bool) (run : List Call) → ((e : ℕ) (h : Half) → IsTrue (was_made run e h) → A e h ≡ B e h) → Agrees A run → Agrees B run
agrees_same A B [] f agrees = tt
agrees_same A B (call ∷ before) f (agree, agrees) = (
  sym (f call.edge call.half (or_left (is_of call call.edge call.half) (was_made before call.edge call.half) (of_itself call))) ∙ agree,
  agrees_same A B before (λ e h t. f e h (or_right (is_of call e h) (was_made before e h) t)) agrees,
)

-- An offer that was made before a call is another one.
not_again : (call : Call) (before : List Call) (e : ℕ) (h : Half) → IsFalse (was_made before call.edge call.half) → IsTrue (was_made before e h) → IsFalse (is_of call e h)
not_again call before e h fresh made = not_true (is_of call e h) (λ t.
    let both = and_both (call.edge == e) (is_half call.half h) t in
    let made' : IsTrue (was_made before call.edge h) = subst (λ (k : ℕ). IsTrue (was_made before k h)) (sym (eqb-true call.edge e both.0)) made in
    clash (subst (λ (j : Half). IsTrue (was_made before call.edge j)) (sym (is_half_same call.half h both.1)) made') fresh)

-- All offers except the refused agree with a legal run.
pub refused_agrees : (c : Content) (I : ℕ → Bool) (run : List Call) → IsLegal c I run → Agrees (all_but (refused_of run)) run
refused_agrees c I [] legal = tt
refused_agrees c I (call ∷ before) (due, legal) = (
  ap not (refused_call call before call.edge call.half) ∙ answer_is (is_refused (refused_of before) call.edge call.half) call.answer (is_of call call.edge call.half) (not_true (is_refused (refused_of before) call.edge call.half) (λ t. clash (refused_made before call.edge call.half t) due.fresh)) (of_itself call),
  agrees_same (all_but (refused_of before)) (all_but (refused_of (call ∷ before))) before
      (λ e h made. ap not (sym (refused_call call before e h ∙ other_is (is_refused (refused_of before) e h) call.answer (is_of call e h) (not_again call before e h due.fresh made))))
      (refused_agrees c I before legal),
)

-- If a run agrees with `A`, each accepted offer is in `A`.
accepted_in : (A : ℕ → Half → Bool) (run : List Call) → Agrees A run → (e : ℕ) (h : Half) → IsTrue (was_accepted run e h) → IsTrue (A e h)
accepted_in A [] agrees e h t = absurd (clash t refl)
accepted_in A (call ∷ before) (agree, agrees) e h t =
    elim (or_cases (is_of call e h && call.answer) (was_accepted before e h) t) [
      | inl p ↦
          let both = and_both (is_of call e h) call.answer p in
          let same = and_both (call.edge == e) (is_half call.half h) both.0 in
          let here : IsTrue (A e call.half) = subst (λ (k : ℕ). IsTrue (A k call.half)) (eqb-true call.edge e same.0) (agree ∙ both.1) in
          subst (λ (j : Half). IsTrue (A e j)) (is_half_same call.half h same.1) here
      | inr p ↦ accepted_in A before agrees e h p
    ]

-- The least set is closed.
least_closed : (c : Content) (I : ℕ → Bool) (A : ℕ → Half → Bool) → IsClosed c I A (Least c I A)
least_closed c I A =
    record {
      initial = λ n i S cl. cl.initial n i;
      unasked = λ e w is ask l S cl. cl.unasked e w is ask (l S cl);
      offered = λ e h w is half a l g S cl. cl.offered e h w is half a (l S cl) (λ q. g q S cl);
    }

closed_same : (c : Content) (I : ℕ → Bool) (A : ℕ → Half → Bool) (L : ℕ → Bool) → ((n : ℕ) → IsTrue (L n) ↔ Least c I A n) → IsClosed c I A (λ n. IsTrue (L n))
closed_same c I A L same =
    let closed = least_closed c I A in
    record {
      initial = λ n i. (same n).1 (closed.initial n i);
      unasked = λ e w is ask s. (same w.far).1 (closed.unasked e w is ask ((same w.start).0 s));
      offered = λ e h w is half a s g. (same w.far).1 (closed.offered e h w is half a ((same w.start).0 s) (λ q. (same w.gate).0 (g q)));
    }

pub walk_exact : {O : Type 0} (c : Content) (I : ℕ → Bool) (gives : O → ℕ → Half → Bool → O → Type 0) (s t : O) (M : ℕ → Bool) (steps : List Step) (refused : List (ℕ × Half)) → IsExplainedWalk c I gives s t M steps refused → IsExact c I refused steps
walk_exact c I gives s t M steps refused walk =
    let run = walk.walk.run in
    let A = all_but (refused_of run) in
    let agrees : Agrees A run = refused_agrees c I run walk.walk.legal in
    let same = λ (n : ℕ). walk.walk.least A agrees n in
    let exact : IsExact c I (refused_of run) steps = record {
      explanation = explained_grows c I (was_accepted run) A steps (λ e h w is a. accepted_in A run agrees e h a) walk.explanation;
      closed = closed_same c I A (is_in (nodes_of steps)) (λ n. (λ l. (same n).0 (walk.listed n ∙ l), λ l. sym (walk.listed n) ∙ (same n).1 l));
    } in
    subst (λ (xs : List (ℕ × Half)). IsExact c I xs steps) (sym walk.refused_in_order) exact

-- One more entry of the refused offers.
pub refused_step : (refused : List (ℕ × Half)) (i : ℕ) (d : ℕ × Half) (e : ℕ) (h : Half) → i < length refused → is_refused (take (i + 1) refused) e h ≡ (is_refused (take i refused) e h || (((slice_index_or refused i d).0 == e) && is_half (slice_index_or refused i d).1 h))
refused_step refused i d e h l =
    let x = slice_index_or refused i d in
    let more : take (i + 1) refused ≡ take i refused ++ (x.0, x.1) ∷ [] = rw add-one (take_snoc refused i x (slice_get-get_or refused i d l)) in
    ap (λ (xs : List (ℕ × Half)). is_refused xs e h) more ∙ is_refused-append (take i refused) x.0 x.1 e h
