-- The nearest start of an owner.
use Rattle.std.proofs.Common.{◌≡◌, ◌∙◌, ◌⊎◌, ◌<◌, ◌≤◌, ◌+◌, ℕ, inl, inr, ⊎_elim, refl, ap, sym, subst, List, length, take, set, get_or, Bool, true, false, cond, nat_eq, nat_lt, Option, Some, None, is_some, slice_get, arith, get_or-set_same, get_or-set_other}
use Rattle.std.specs.Option.{option_map_or}
use Rattle.std.proofs.lemmas.Bool.{cases_eq, eq-eqb, eqb-true, ltb-true, ltb-false, ne_eqb}
use Rattle.shortest_routes.specs.Routes.{IsStartOf}
use Rattle.shortest_routes.specs.inner.Nearest.{IsNearest, distance_at, nearer, noted}
use Rattle.shortest_routes.specs.inner.Steps.{step_at}
use Rattle.shortest_routes.specs.declared.step.Step.{Step}
use Rattle.shortest_routes.proofs.ChainLemmas.{distance_is}
use Rattle.shortest_routes.proofs.ListLemmas.{by_option, none_in, not_both, same_one, taken_before, taken_cases, taken_next}

-- a write at an owner, of what depends on what was there
pub written : (f : Option ℕ → Option ℕ) (old : List (Option ℕ)) (owner : ℕ) (best : Option ℕ) → owner < length old → best ≡ f (get_or old owner None)
    → (o : ℕ) → get_or (set old owner best) o None ≡ cond (nat_eq owner o) (f (get_or old o None)) (get_or old o None)
written f old owner best within is o = at (cases_eq o owner)
  where
    at : (o ≡ owner) ⊎ (o ≡ owner → ⊥) → get_or (set old owner best) o None ≡ cond (nat_eq owner o) (f (get_or old o None)) (get_or old o None)
    at (inl e) = subst (λ z. get_or (set old owner best) z None ≡ cond (nat_eq owner z) (f (get_or old z None)) (get_or old z None)) (sym e)
        (get_or-set_same old owner best None within ∙ is ∙ ap (λ b. cond b (f (get_or old owner None)) (get_or old owner None)) (sym (eq-eqb owner owner refl)))
    at (inr ne) = get_or-set_other old owner o best None ne ∙ ap (λ b. cond b (f (get_or old o None)) (get_or old o None)) (sym (ne_eqb owner o (λ e. ne (sym e))))

module _ (steps : List (Option Step)) (P Q : ℕ → Type 0) (x : ℕ) (is_x : Q x) (more : (n : ℕ) → P n → Q n) (only : (n : ℕ) → Q n → P n ⊎ (x ≡ n)) where
  -- the new one is the nearest
  is_first : (s : Step) → step_at steps x ≡ Some s → ((n : ℕ) (t : Step) → P n → step_at steps n ≡ Some t → s.distance ≤ t.distance) → IsNearest steps Q (Some x)
  is_first s e least = (
    is_x,
    (
      s,
      e,
      λ n t q at. ⊎_elim
          (λ p. least n t p at)
          (λ same. let d : s.distance ≡ t.distance = ap (λ (z : Step). z.distance) (same_one (step_at steps n) s t (subst (λ z. step_at steps z ≡ Some s) same e) at) in omega arith)
          (only n q),
    ),
  )

  -- none has a step
  has_none : ((n : ℕ) → P n → step_at steps n ≡ None) → step_at steps x ≡ None → IsNearest steps Q None
  has_none none gone = λ n q. ⊎_elim (λ p. none n p) (λ same. subst (λ z. step_at steps z ≡ None) same gone) (only n q)

  -- the old one stays the nearest
  stays : (best : ℕ) (s : Step) → P best → step_at steps best ≡ Some s → ((n : ℕ) (t : Step) → P n → step_at steps n ≡ Some t → s.distance ≤ t.distance)
      → ((t : Step) → step_at steps x ≡ Some t → s.distance ≤ t.distance) → IsNearest steps Q (Some best)
  stays best s p e least last = (
    more best p,
    (
      s,
      e,
      λ n t q at. ⊎_elim
          (λ r. least n t r at)
          (λ same. last t (subst (λ z. step_at steps z ≡ Some t) (sym same) at))
          (only n q),
    ),
  )

  pub nearer_is : (best : Option ℕ) → IsNearest steps P best → IsNearest steps Q (nearer steps best x)
  nearer_is None w = by_option (step_at steps x)
      (λ none. subst (λ o. IsNearest steps Q (cond (is_some o) (Some x) None)) (sym none) (has_none w none))
      (λ s e. subst (λ o. IsNearest steps Q (cond (is_some o) (Some x) None)) (sym e) (is_first s e (λ n t p at. not_both (step_at steps n) t (w n p) at)))
  nearer_is (Some best) w = by_option (step_at steps x)
      (λ none. subst (λ o. IsNearest steps Q (cond (option_map_or (λ (z : Step). nat_lt z.distance (distance_at steps best)) o false) (Some x) (Some best))) (sym none)
      (stays best w.1.0 w.0 w.1.1 w.1.2 (λ t at. not_both (step_at steps x) t none at)))
      (λ s e. subst (λ o. IsNearest steps Q (cond (option_map_or (λ (z : Step). nat_lt z.distance (distance_at steps best)) o false) (Some x) (Some best))) (sym e)
      (go s e (nat_lt s.distance (distance_at steps best)) refl))
    where
      known : distance_at steps best ≡ w.1.0.distance
      known = distance_is steps best w.1.0 w.1.1

      go : (s : Step) → step_at steps x ≡ Some s → (b : Bool) → nat_lt s.distance (distance_at steps best) ≡ b → IsNearest steps Q (cond b (Some x) (Some best))
      go s e true lower =
          let d : s.distance < distance_at steps best = ltb-true s.distance (distance_at steps best) lower in
          is_first s e (λ n t p at. let f : w.1.0.distance ≤ t.distance = w.1.2 n t p at in omega (arith, known))
      go s e false higher =
          let d : distance_at steps best ≤ s.distance = ltb-false s.distance (distance_at steps best) higher in
          stays best w.1.0 w.0 w.1.1 w.1.2 (λ t at. let f : s.distance ≡ t.distance = ap (λ (z : Step). z.distance) (same_one (step_at steps x) s t e at) in omega (arith, known))

-- none is nearer if the same have the property
pub same_nearest : (steps : List (Option Step)) (P Q : ℕ → Type 0) → ((n : ℕ) → P n → Q n) → ((n : ℕ) → Q n → P n) → (best : Option ℕ) → IsNearest steps P best → IsNearest steps Q best
same_nearest steps P Q there back None w = λ n q. w n (back n q)
same_nearest steps P Q there back (Some best) w = (there best w.0, (w.1.0, w.1.1, λ n t q at. w.1.2 n t (back n q) at))

-- no start was looked at
pub nearest_begun : (steps : List (Option Step)) (owners starts : List ℕ) (owner : ℕ) (best : Option ℕ) → best ≡ None → IsNearest steps (IsStartOf owners (take 0 starts) owner) best
nearest_begun steps owners starts owner best none = subst (λ z. IsNearest steps (IsStartOf owners (take 0 starts) owner) z) (sym none) (λ n h. absurd (none_in n h.0))

-- one more start was looked at
pub nearest_more : (steps : List (Option Step)) (owners starts : List ℕ) (i owner : ℕ) (old new : Option ℕ) → i < length starts → IsNearest steps (IsStartOf owners (take i starts) owner) old
    → new ≡ noted steps owners (get_or starts i 0) owner old → IsNearest steps (IsStartOf owners (take (i + 1) starts) owner) new
nearest_more steps owners starts i owner old new within w is = subst (λ z. IsNearest steps (IsStartOf owners (take (i + 1) starts) owner) z) (sym is) (at (option_map_or (λ p. nat_eq p owner) (slice_get owners x) false) refl)
  where
    x : ℕ
    x = get_or starts i 0

    P : ℕ → Type 0
    P = IsStartOf owners (take i starts) owner

    Q : ℕ → Type 0
    Q = IsStartOf owners (take (i + 1) starts) owner

    more : (n : ℕ) → P n → Q n
    more n h = (taken_before starts i 0 n within h.0, h.1)

    only : (n : ℕ) → Q n → P n ⊎ (x ≡ n)
    only n h = ⊎_elim (λ c. inl (c, h.1)) (λ e. inr e) (taken_cases starts i 0 n within h.0)

    test_of : (o : Option ℕ) → o ≡ Some owner → option_map_or (λ p. nat_eq p owner) o false ≡ true
    test_of o e = ap (λ z. option_map_or (λ p. nat_eq p owner) z false) e ∙ eq-eqb owner owner refl

    owner_of : (o : Option ℕ) → option_map_or (λ p. nat_eq p owner) o false ≡ true → o ≡ Some owner
    owner_of None e = cc
    owner_of (Some p) e = ap Some (eqb-true p owner e)

    unlike : (b : Bool) → b ≡ true → b ≡ false → ⊥
    unlike b there gone = let bad : true ≡ false = sym there ∙ gone in cc

    at : (b : Bool) → option_map_or (λ p. nat_eq p owner) (slice_get owners x) false ≡ b → IsNearest steps Q (cond b (nearer steps old x) old)
    at true e = nearer_is steps P Q x (taken_next starts i 0 x within refl, owner_of (slice_get owners x) e) more only old w
    at false e = same_nearest steps P Q more
        (λ n q. ⊎_elim (λ p. p) (λ same. absurd (unlike _ (test_of (slice_get owners x) (subst (λ z. slice_get owners z ≡ Some owner) (sym same) q.1)) e)) (only n q))
        old w
