-- Explanations, from other initial nodes and by other offers.
use Rattle.std.proofs.Common.{◌∙◌, refl, subst, inl, inr, ℕ, Bool, true, false, ◌&&◌, not, List, [], ◌∷◌, take}
use Rattle.std.specs.Prelude.{◌↔◌, IsTrue}
use Rattle.feature_core.specs.Offers.{IsOffer}
use Rattle.walk_engine.specs.declared.walks.Half.{Half}
use Rattle.walk_engine.specs.declared.walks.Step.{Step}
use Rattle.walk_engine.specs.declared.walks.StepReason.{StepReason}
use Rattle.walk_engine.specs.declared.walks.StepReason.TheVariants.{Initial, Edge, Offer}
use Rattle.walk_engine.specs.Explanations.{IsReason, IsExplanation, IsExplainedWalk, nodes_of}
use Rattle.walk_engine.specs.Laws.{AnswersBy as AnswersAs}
use Rattle.walk_engine.specs.Walks.{Content, Call, IsClosed, Agrees, was_accepted, is_of}
use Rattle.walk_checks.specs.Exact.{is_refused, all_but, IsExact, IsExplainedRun}
use Rattle.feature_graph.proofs.NumberedLemmas.{false_true, or_cases, same_offer}
use Rattle.feature_graph.proofs.Visits.{is_explained_walk, agrees_along}

-- a reason that holds also holds for more initial nodes and more offers
reason_grows : (c : Content) (I J : ℕ → Bool) (A B : ℕ → Half → Bool) (before : List ℕ) (n : ℕ) (reason : StepReason) → ((k : ℕ) → IsTrue (I k) → IsTrue (J k)) → ((e : ℕ) (h : Half) → IsOffer c e h → IsTrue (A e h) → IsTrue (B e h))
    → IsReason c I A before n reason → IsReason c J B before n reason
reason_grows c I J A B before n Initial more offers is = more n is
reason_grows c I J A B before n (Edge e) more offers is = is
reason_grows c I J A B before n (Offer e h) more offers (w, is, half, a, far, start, gate) = (w, is, half, offers e h (record { way = w; is_way = is; half = half }) a, far, start, gate)

pub explanation_grows : (c : Content) (I J : ℕ → Bool) (A B : ℕ → Half → Bool) (steps : List Step) → ((k : ℕ) → IsTrue (I k) → IsTrue (J k)) → ((e : ℕ) (h : Half) → IsOffer c e h → IsTrue (A e h) → IsTrue (B e h))
    → IsExplanation c I A steps → IsExplanation c J B steps
explanation_grows c I J A B steps more offers x = record {
  once = x.once;
  reasons = λ k step at. reason_grows c I J A B (take k (nodes_of steps)) step.node step.reason more offers (x.reasons k step at);
}

-- a closed set is also closed for fewer initial nodes and fewer offers
closed_shrinks : (c : Content) (I J : ℕ → Bool) (A B : ℕ → Half → Bool) (S : ℕ → Type 0) → ((k : ℕ) → IsTrue (J k) → IsTrue (I k)) → ((e : ℕ) (h : Half) → IsOffer c e h → IsTrue (B e h) → IsTrue (A e h)) → IsClosed c I A S → IsClosed c J B S
closed_shrinks c I J A B S fewer offers x = record {
  initial = λ n is. x.initial n (fewer n is);
  unasked = x.unasked;
  offered = λ e h w is half b. x.offered e h w is half (offers e h (record { way = w; is_way = is; half = half }) b);
}

not_more : (a b : Bool) → (IsTrue b → IsTrue a) → IsTrue (not a) → IsTrue (not b)
not_more true true f h = absurd (false_true h)
not_more false true f h = absurd (false_true (f refl))
not_more true false f h = refl
not_more false false f h = refl

-- an exact explanation depends on the refused offers, not on the order in which they are listed
pub exact_same : (c : Content) (I J : ℕ → Bool) (xs ys : List (ℕ × Half)) (steps : List Step) → ((k : ℕ) → IsTrue (I k) ↔ IsTrue (J k)) → ((e : ℕ) (h : Half) → IsOffer c e h → IsTrue (is_refused xs e h) ↔ IsTrue (is_refused ys e h))
    → IsExact c I xs steps → IsExact c J ys steps
exact_same c I J xs ys steps initials refused x = record {
  explanation = explanation_grows c I J (all_but xs) (all_but ys) steps (λ k. (initials k).0) (λ e h offer. not_more (is_refused xs e h) (is_refused ys e h) (refused e h offer).1) x.explanation;
  closed = closed_shrinks c I J (all_but xs) (all_but ys) _ (λ k. (initials k).1) (λ e h offer. not_more (is_refused ys e h) (is_refused xs e h) (refused e h offer).0) x.closed;
}

-- an explained walk is an explained run, for every visitor
pub explained_run : {V : Type 0} (c : Content) (I : ℕ → Bool) (gives : V → ℕ → Half → Bool → V → Type 0) (s t : V) (M : ℕ → Bool) (steps : List Step) (refused : List (ℕ × Half)) → IsExplainedWalk c I gives s t M steps refused → IsExplainedRun c I M steps refused
explained_run {V} c I gives s t M steps refused walk =
    (is_explained_walk (λ (p : V). Unit {0}) (λ (p : V). tt {0}) gives (λ (p : Unit {0}) e h answer (r : Unit {0}). Unit {0}) (λ p e h answer r holds step. (tt, tt)) c I s t M steps refused tt walk).1

-- an accepted offer is in each set that agrees with the run
accepted_in : (A : ℕ → Half → Bool) (run : List Call) → Agrees A run → (e : ℕ) (h : Half) → IsTrue (was_accepted run e h) → IsTrue (A e h)
accepted_in A [] agrees e h t = absurd (false_true t)
accepted_in A (call ∷ before) (agree, agrees) e h t = elim ((or_cases (is_of call e h && call.answer) (was_accepted before e h)).0 t) [
  | inl here ↦
      let same = both_of (is_of call e h) call.answer here in
      let is = (same_offer (call.edge, call.half) e h).0 same.0 in
      subst (λ k. IsTrue (A k h)) is.0 (subst (λ k. IsTrue (A call.edge k)) is.1 (agree ∙ same.1))
  | inr earlier ↦ accepted_in A before agrees e h earlier
]
  where
    both_of : (a b : Bool) → IsTrue (a && b) → IsTrue a × IsTrue b
    both_of true b h = (refl, h)
    both_of false b h = absurd (false_true h)

-- the steps use only offers that the visitor accepts
pub explained_by_answer : {V : Type 0} (c : Content) (I : ℕ → Bool) (gives : V → ℕ → Half → Bool → V → Type 0) (A : ℕ → Half → Bool) (s t : V) (M : ℕ → Bool) (steps : List Step) (refused : List (ℕ × Half)) → AnswersAs gives A s
    → IsExplainedWalk c I gives s t M steps refused → IsExplanation c I A steps
explained_by_answer c I gives A s t M steps refused answers walk =
    let agrees = agrees_along gives A s answers walk.walk.run t walk.walk.calls in
    explanation_grows c I I (was_accepted walk.walk.run) A steps (λ k h. h) (λ e h offer. accepted_in A walk.walk.run agrees e h) walk.explanation
