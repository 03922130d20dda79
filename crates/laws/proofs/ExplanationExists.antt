-- Steps that explain exactly the least set.
use Rattle.std.proofs.Common.{◌≡◌, ℕ, zero, suc, ◌+◌, ◌<◌, ◌≤◌, ⊎_elim, inl, inr, Bool, List, [], ◌∷◌, ◌++◌, Some, length, get_or, refl, ap, ◌∙◌, arith}
use Rattle.std.specs.Prelude.{◌↔◌, IsFalse, IsTrue, nat_lt}
use Rattle.std.proofs.lemmas.Bool.{lt-ltb, ltb-true}
use Rattle.std.proofs.lemmas.List.{length-append, length-map}
use Rattle.std.proofs.lemmas.Option.{slice_get-get_or}
use Rattle.walk_engine.specs.declared.walks.Half.{Half}
use Rattle.walk_engine.specs.declared.walks.Step.{Step}
use Rattle.walk_engine.specs.declared.walks.StepReason.{StepReason}
use Rattle.walk_engine.specs.declared.walks.StepReason.TheVariants.{Initial, Edge, Offer}
use Rattle.walk_engine.specs.Explanations.{Distinct, IsExplanation, IsReason, nodes_of}
use Rattle.walk_engine.specs.Walks.{Content, EndsAreNodes, IsClosed, Least, is_in}
use Rattle.digraph_orders.specs.inner.Apart.{AreApart}
use Rattle.digraph_orders.proofs.ApartLemmas.{apart_short, more_apart}
use Rattle.walk_checks.proofs.Bools.{clash, decide}
use Rattle.walk_checks.proofs.Numbers.{is_in_at}
use Rattle.walk_checks.proofs.Steps.{explained_in, explained_none, explained_snoc}
use Rattle.laws.proofs.DoubleNegation.{decided, onward, sure}

apart : (xs : List ℕ) → Distinct xs → AreApart xs
apart [] d = λ i j l within. absurd (omega (arith, within))
apart (x ∷ xs) (first, rest) =
    more_apart x xs (apart xs rest) (λ k within e. clash (is_in_at xs k x (slice_get-get_or xs k 0 within ∙ ap Some e)) first)

module _ (c : Content) (I : ℕ → Bool) (A : ℕ → Half → Bool) (ends : EndsAreNodes c) (within : (n : ℕ) → IsTrue (I n) → n < c.nodes) where
  -- the set of all nodes is closed
  nodes_closed : IsClosed c I A (λ k. IsTrue (nat_lt k c.nodes))
  nodes_closed = record {
    initial = λ n t. lt-ltb n c.nodes (within n t);
    unasked = λ e w is ask start. lt-ltb w.far c.nodes (ends e w is).1;
    offered = λ e h w is half a start gate. lt-ltb w.far c.nodes (ends e w is).1;
  }

  pub least_below : (n : ℕ) → Least c I A n → n < c.nodes
  least_below n l = ltb-true n c.nodes (l (λ k. nat_lt k c.nodes) nodes_closed)

  -- A step that explains one more node.
  record HasNext (steps : List Step) : Type 0 where
    step : Step
    fresh : IsFalse (is_in (nodes_of steps) step.node)
    reason : IsReason c I A (nodes_of steps) step.node step.reason

  -- Steps that explain all nodes that can be explained.
  record IsWhole (steps : List Step) : Type 0 where
    explanation : IsExplanation c I A steps
    none : ¬ HasNext steps

  explained_below : (steps : List Step) → IsExplanation c I A steps → (i : ℕ) → i < length (nodes_of steps) → get_or (nodes_of steps) i 0 < c.nodes
  explained_below steps ok i l =
      let listed : IsTrue (is_in (nodes_of steps) (get_or (nodes_of steps) i 0)) = is_in_at (nodes_of steps) i (get_or (nodes_of steps) i 0) (slice_get-get_or (nodes_of steps) i 0 l) in
      ltb-true (get_or (nodes_of steps) i 0) c.nodes (explained_in c I A (λ k. nat_lt k c.nodes) steps ok nodes_closed (get_or (nodes_of steps) i 0) listed)

  -- an explanation has at most as many steps as there are nodes
  explained_short : (steps : List Step) → IsExplanation c I A steps → length steps ≤ c.nodes
  explained_short steps ok =
      let short : length (nodes_of steps) ≤ c.nodes = apart_short (nodes_of steps) c.nodes (apart (nodes_of steps) ok.once) (explained_below steps ok) in
      let same : length (nodes_of steps) ≡ length steps = length-map steps (λ (s : Step). s.node) in
      omega (arith, short, same)

  more_steps : (steps : List Step) → IsExplanation c I A steps → (x : HasNext steps) → IsExplanation c I A (steps ++ x.step ∷ [])
  more_steps steps ok x = explained_snoc c I A steps x.step ok x.fresh x.reason

  none_next : (steps : List Step) → IsExplanation c I A steps → c.nodes ≤ length steps → ¬ HasNext steps
  none_next steps ok full x =
      let short : length (steps ++ x.step ∷ []) ≤ c.nodes = explained_short (steps ++ x.step ∷ []) (more_steps steps ok x) in
      let long = length-append steps (x.step ∷ []) in
      omega (arith, short, long, full)

  whole : (fuel : ℕ) (steps : List Step) → IsExplanation c I A steps → c.nodes ≤ length steps + fuel → ¬ ¬ ((all : List Step) × IsWhole all)
  whole zero steps ok enough = sure (steps, record { explanation = ok; none = none_next steps ok (omega (arith, enough)) })
  whole (suc fuel) steps ok enough = onward (decided (HasNext steps)) (λ d. ⊎_elim
      (λ x. let long = length-append steps (x.step ∷ []) in whole fuel (steps ++ x.step ∷ []) (more_steps steps ok x) (omega (arith, enough, long)))
      (λ none. sure (steps, record { explanation = ok; none = none }))
      d)

  module _ (steps : List Step) (all : IsWhole steps) where
    listed : (n : ℕ) (r : StepReason) → IsReason c I A (nodes_of steps) n r → IsTrue (is_in (nodes_of steps) n)
    listed n r reason =
        elim (decide (is_in (nodes_of steps) n)) [
          | inl there ↦ there
          | inr fresh ↦ absurd (all.none (record { step = record { node = n; reason = r }; fresh = fresh; reason = reason }))
        ]

    listed_closed : IsClosed c I A (λ k. IsTrue (is_in (nodes_of steps) k))
    listed_closed = record {
      initial = λ n t. listed n Initial t;
      unasked = λ e w is ask start. listed w.far (Edge e) (w, is, ask, refl, start);
      offered = λ e h w is half a start gate. listed w.far (Offer e h) (w, is, half, a, refl, start, gate);
    }

    listed_least : (n : ℕ) → IsTrue (is_in (nodes_of steps) n) ↔ Least c I A n
    listed_least n = (
      λ there S closed. explained_in c I A S steps all.explanation closed n there,
      λ l. l (is_in (nodes_of steps)) listed_closed,
    )

  -- the least set has an explanation that lists exactly its nodes
  pub explanation_exists : ¬ ¬ ((steps : List Step) × IsExplanation c I A steps × ((n : ℕ) → IsTrue (is_in (nodes_of steps) n) ↔ Least c I A n))
  explanation_exists = onward (whole c.nodes [] (explained_none c I A) (omega arith)) (λ x. sure (x.0, x.1.explanation, listed_least x.0 x.1))
