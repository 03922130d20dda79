-- The ways that count, and their ends.
use Rattle.std.proofs.Common.{◌≡◌, ◌∙◌, inl, inr, ⊎_elim, ℕ, zero, suc, ◌+◌, ◌<◌, Bool, true, false, List, [], ◌∷◌, ◌++◌, length, drop, append_assoc, Some, refl, ap, sym, subst, arith, if◌then◌else◌}
use Rattle.std.specs.Prelude.{All, AllPairs, Contains, slice_get, slice_index_or}
use Rattle.std.specs.List.{AllByRecursion}
use Rattle.std.proofs.lemmas.List.Elements.{All-append, All-from_recursion, Contains-append_cases}
use Rattle.std.proofs.lemmas.Bool.{cases_lt}
use Rattle.std.proofs.lemmas.Option.{get_or_from_slice_get, slice_get_within}
use Rattle.guppy_packages.proofs.Ascending.{Contains-cases, Contains-first, Contains-later, Contains-none}
use Rattle.guppy_packages.specs.Tables.{HasNoRepeats}
use Rattle.guppy_packages.specs.declared.direction.DependencyDirection.TheVariants.{Forward}
use Rattle.feature_core.specs.Built.{ends_of}
use Rattle.feature_core.specs.Pairs.{IsBefore}
use Rattle.feature_core.specs.Ways.{way, ways}
use Rattle.feature_links.specs.Facts.{EdgeFacts}
use Rattle.walk_engine.specs.Walks.{Content, EndsAreNodes, IsWay, Way}
use Rattle.plan_whys.specs.links.SpotLinks.{counts}
use Rattle.plan_whys.specs.links.inner.Pairs.{AreBelow, counted_ends, ends_if}
use Rattle.plan_whys.proofs.Joined.{first_once, later_once}

-- The ends of the ways before and after one.

drop_at : (ws : List Way) (k : ℕ) → k < length ws → (w : Way) × (slice_get ws k ≡ Some w) × (drop k ws ≡ w ∷ drop (k + 1) ws)
drop_at [] k within = absurd (omega (arith, within))
drop_at (x ∷ ws) zero within = (x, refl, refl)
drop_at (x ∷ ws) (suc k) within =
    let rest = drop_at ws k (omega (arith, within)) in
    let next : suc (k + 1) ≡ suc k + 1 = omega arith in
    (rest.0, rest.1, rest.2 ∙ ap (λ m. rest.0 ∷ drop m (x ∷ ws)) next)

pub way_step : (M : ℕ → Bool) (ws : List Way) (k : ℕ) (all old new : List (ℕ × ℕ)) → k < length ws → ((w : Way) → slice_get ws k ≡ Some w → new ≡ old ++ ends_if M w) → all ≡ old ++ counted_ends M (drop k ws)
    → all ≡ new ++ counted_ends M (drop (k + 1) ws)
way_step M ws k all old new within more is =
    let at = drop_at ws k within in
    let rest = counted_ends M (drop (k + 1) ws) in
    is ∙ ap (λ l. old ++ counted_ends M l) at.2 ∙ sym (append_assoc old (ends_if M at.0) rest) ∙ ap (λ l. l ++ rest) (sym (more at.0 at.1))

-- The ends are nodes.

module _ (c : Content) (ends : EndsAreNodes c) (M : ℕ → Bool) where
  abbrev Inside : ℕ × ℕ → Type 0
  Inside p = (p.0 < c.nodes) × (p.1 < c.nodes)

  if_inside : (e : ℕ) (w : Way) (test : Bool) → IsWay c e w → AllByRecursion Inside (if test then (w.start, w.far) ∷ [] else [])
  if_inside e w true is = let at = ends e w is in ((at.0, at.1), tt)
  if_inside e w false is = tt

  from_inside : (k : ℕ) (ws : List Way) → ((i : ℕ) (w : Way) → slice_get ws i ≡ Some w → IsWay c (k + i) w) → All Inside (counted_ends M ws)
  from_inside k [] are = All-from_recursion Inside [] tt
  from_inside k (w ∷ ws) are =
      let here : IsWay c k w = subst (λ e. IsWay c e w) (omega arith) (are 0 w refl) in
      All-append Inside (ends_if M w) (counted_ends M ws)
      (All-from_recursion Inside (ends_if M w) (if_inside k w (counts M w) here))
      (from_inside (k + 1) ws (λ i v at. subst (λ e. IsWay c e v) (omega arith) (are (suc i) v at)))

  pub ends_inside : AreBelow c.nodes (counted_ends M c.ways)
  ends_inside = from_inside 0 c.ways (λ i w at. subst (λ e. IsWay c e w) (omega arith) at)

-- Each pair of ends is there once.

before_self : (p : ℕ × ℕ) → IsBefore p p → ⊥
before_self p (inl h) = omega (arith, h)
before_self p (inr h) = let less = h.1 in omega (arith, less)

pub ascending_once : (ps : List (ℕ × ℕ)) → AllPairs IsBefore ps → HasNoRepeats ps
ascending_once ps up i j p a b = ⊎_elim
    (λ less. absurd (clash i j less a b))
    (λ past. ⊎_elim (λ less. absurd (clash j i less b a)) (λ back. omega (arith, past, back)) (cases_lt j i))
    (cases_lt i j)
  where
    clash : (m n : ℕ) → m < n → slice_get ps m ≡ Some p → slice_get ps n ≡ Some p → ⊥
    clash m n less g h =
        let first : slice_index_or ps m p ≡ p = get_or_from_slice_get ps m p p g in
        let second : slice_index_or ps n p ≡ p = get_or_from_slice_get ps n p p h in
        before_self p (subst (IsBefore p) second (subst (λ z. IsBefore z (slice_index_or ps n p)) first (up m n p less (slice_get_within ps n p h))))

none_once : HasNoRepeats {X = ℕ × ℕ} []
none_once i j p a b = cc

cons_once : {X : Type 0} (x : X) (xs : List X) → (Contains xs x → ⊥) → HasNoRepeats xs → HasNoRepeats (x ∷ xs)
cons_once x xs apart once zero zero y a b = refl
cons_once x xs apart once zero (suc j) y a b =
    let same : x ≡ y = cc in
    absurd (apart (j, slice_get_within xs j y b, get_or_from_slice_get xs j y x b ∙ sym same))
cons_once x xs apart once (suc i) zero y a b =
    let same : x ≡ y = cc in
    absurd (apart (i, slice_get_within xs i y a, get_or_from_slice_get xs i y x a ∙ sym same))
cons_once x xs apart once (suc i) (suc j) y a b = ap suc (once i j y a b)

kept_once : (test : Bool) (p : ℕ × ℕ) (rest : List (ℕ × ℕ)) → (Contains rest p → ⊥) → HasNoRepeats rest → HasNoRepeats ((if test then p ∷ [] else []) ++ rest)
kept_once true p rest apart once = cons_once p rest apart once
kept_once false p rest apart once = once

pub if_found : (test : Bool) (q p : ℕ × ℕ) → Contains (if test then q ∷ [] else []) p → (test ≡ true) × (q ≡ p)
if_found true q p h = ⊎_elim (λ same. (refl, same)) (λ none. absurd (Contains-none p none)) (Contains-cases q [] p h)
if_found false q p h = absurd (Contains-none p h)

module _ (M : ℕ → Bool) (weak : List (ℕ × ℕ)) where
  counted_in : (es : List (ℕ × ℕ × EdgeFacts)) (p : ℕ × ℕ) → Contains (counted_ends M (ways Forward es weak)) p → Contains (ends_of es) p
  counted_in [] p h = h
  counted_in (e ∷ es) p h = ⊎_elim
      (λ i. subst (Contains (ends_of (e ∷ es))) (if_found (counts M (way Forward weak e)) (e.0, e.1) p i).1 (Contains-first (e.0, e.1) (ends_of es)))
      (λ i. Contains-later (e.0, e.1) (ends_of es) p (counted_in es p i))
      (Contains-append_cases (ends_if M (way Forward weak e)) (counted_ends M (ways Forward es weak)) p h)

  pub counted_once : (es : List (ℕ × ℕ × EdgeFacts)) → HasNoRepeats (ends_of es) → HasNoRepeats (counted_ends M (ways Forward es weak))
  counted_once [] once = none_once
  counted_once (e ∷ es) once =
      kept_once (counts M (way Forward weak e)) (e.0, e.1) (counted_ends M (ways Forward es weak))
      (λ h. first_once (e.0, e.1) (ends_of es) once (counted_in es (e.0, e.1) h)) (counted_once es (later_once (e.0, e.1) (ends_of es) once))
