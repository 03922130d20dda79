-- The links that leave a package, among all links.
use Rattle.std.proofs.Common.{◌≡◌, ℕ, zero, suc, ◌+◌, ◌<◌, ◌≤◌, List, [], ◌∷◌, ◌++◌, Bool, true, false, cond, take, drop, Some, refl, ap, sym, ◌∙◌, subst, arith}
use Rattle.std.specs.Prelude.{slice_get, filter, nat_lt, ◌==◌}
use Rattle.std.specs.List.Sorted.{IsNonDecreasingBy}
use Rattle.std.proofs.lemmas.Bool.Decides.{nat_tests}
use Rattle.std.proofs.lemmas.List.{take-append-drop}
use Rattle.std.proofs.lemmas.List.Elements.{filter-append}
use Rattle.std.proofs.lemmas.List.Sorted.{IsNonDecreasingBy-drop}
use Rattle.std.proofs.lemmas.Option.{get_or_from_slice_get}
use Rattle.guppy_packages.specs.Tables.{LinkTable, Tables, AreLinksFrom}
use Rattle.feature_edges.specs.inner.Collects.{links_from, links_below}
use Rattle.feature_edges.proofs.AddsLemmas.{place_below}
use Rattle.feature_edges.proofs.NodeLemmas.{append-none, take-next}

module _ {X : Type 0} where
  -- elements of a part of a list
  from_take : (xs : List X) (n k : ℕ) (x : X) → slice_get (take n xs) k ≡ Some x → (k < n) × (slice_get xs k ≡ Some x)
  from_take [] zero k x h = cc
  from_take [] (suc n) k x h = cc
  from_take (y ∷ ys) zero k x h = cc
  from_take (y ∷ ys) (suc n) zero x h = (omega arith, h)
  from_take (y ∷ ys) (suc n) (suc k) x h = let r = from_take ys n k x h in (omega (arith, r.0), r.1)

  from_drop : (xs : List X) (n k : ℕ) (x : X) → slice_get (drop n xs) k ≡ Some x → slice_get xs (n + k) ≡ Some x
  from_drop xs zero k x h = subst (λ z. slice_get xs z ≡ Some x) (omega arith) h
  from_drop [] (suc n) k x h = cc
  from_drop (y ∷ ys) (suc n) k x h =
      let e : suc (n + k) ≡ suc n + k = omega arith in
      subst (λ z. slice_get (y ∷ ys) z ≡ Some x) e (from_drop ys n k x h)

  module _ (test : X → Bool) where
    -- no element passes, or each does
    pub filter-none : (xs : List X) → ((k : ℕ) (x : X) → slice_get xs k ≡ Some x → test x ≡ false) → filter test xs ≡ []
    filter-none [] h = refl
    filter-none (x ∷ xs) h = ap (λ b. cond b (x ∷ filter test xs) (filter test xs)) (h 0 x refl) ∙ filter-none xs (λ k y at. h (suc k) y at)

    pub filter-all : (xs : List X) → ((k : ℕ) (x : X) → slice_get xs k ≡ Some x → test x ≡ true) → filter test xs ≡ xs
    filter-all [] h = refl
    filter-all (x ∷ xs) h = ap (λ b. cond b (x ∷ filter test xs) (filter test xs)) (h 0 x refl) ∙ ap (λ z. x ∷ z) (filter-all xs (λ k y at. h (suc k) y at))

    -- one more element that passes
    filter-next : (xs : List X) (i : ℕ) (x : X) → slice_get xs i ≡ Some x → test x ≡ true → filter test (take (i + 1) xs) ≡ filter test (take i xs) ++ x ∷ []
    filter-next xs i x at passes =
        ap (filter test) (take-next xs i x at) ∙ filter-append test (take i xs) (x ∷ []) ∙ ap (λ b. filter test (take i xs) ++ cond b (x ∷ []) []) passes

module _ (t : Tables) (p first end : ℕ) (are : AreLinksFrom t.links p first end) where
  abbrev leaves : LinkTable → Bool
  leaves link = link.from == p

  within : (k : ℕ) (link : LinkTable) → slice_get t.links k ≡ Some link → leaves link ≡ true → (first ≤ k) × (k < end)
  within k link at h = let e : link.from ≡ p = grind (arith, nat_tests) in (are.exactly k link at).0 e

  outside : (k : ℕ) (link : LinkTable) → slice_get t.links k ≡ Some link → ((first ≤ k) × (k < end) → ⊥) → leaves link ≡ false
  outside k link at h = go (leaves link) refl
    where
      go : (b : Bool) → leaves link ≡ b → b ≡ false
      go true e = absurd (h (within k link at e))
      go false e = refl

  pub leaving-none : filter (λ link. link.from == p) (take first t.links) ≡ []
  leaving-none = filter-none leaves (take first t.links) (λ k link at. let h = from_take t.links first k link at in outside k link h.1 (λ w. omega (arith, h.0, w.0)))

  pub leaving-more : (k : ℕ) (link : LinkTable) → slice_get t.links k ≡ Some link → first ≤ k → k < end → filter (λ link. link.from == p) (take (k + 1) t.links) ≡ filter (λ link. link.from == p) (take k t.links) ++ link ∷ []
  leaving-more k link at low high =
      let e : link.from ≡ p = (are.exactly k link at).1 (low, high) in
      filter-next leaves t.links k link at (grind (arith, nat_tests, e))

  pub leaving-all : (n : ℕ) → end ≤ n → filter (λ link. link.from == p) (take n t.links) ≡ links_from t p
  leaving-all n l =
      let rest : filter leaves (drop n t.links) ≡ [] = filter-none leaves (drop n t.links) (λ k link at. outside (n + k) link (from_drop t.links n k link at) (λ w. omega (arith, l, w.1))) in
      sym (append-none (filter leaves (take n t.links)))
      ∙ ap (λ z. filter leaves (take n t.links) ++ z) (sym rest)
      ∙ sym (filter-append leaves (take n t.links) (drop n t.links))
      ∙ ap (filter leaves) (take-append-drop n t.links)

-- the first link of a sorted list leaves no later package than the others
no_later : (l : LinkTable) (ls : List LinkTable) → IsNonDecreasingBy (λ link. link.from) (l ∷ ls) → (k : ℕ) (x : LinkTable) → slice_get ls k ≡ Some x → l.from ≤ x.from
no_later l ls sorted k x at =
    subst (λ z. l.from ≤ z.from) (get_or_from_slice_get ls k x l at) (sorted 0 (suc k) l (omega arith) (let w = place_below ls k x at in omega (arith, w)))

abbrev earlier : ℕ → List LinkTable → List LinkTable
earlier p ls = filter (λ link. nat_lt link.from p) ls

abbrev leaving : ℕ → List LinkTable → List LinkTable
leaving p ls = filter (λ link. link.from == p) ls

-- one more link before sorted ones
one_before : (p : ℕ) (l : LinkTable) (ls : List LinkTable) → ((k : ℕ) (x : LinkTable) → slice_get ls k ≡ Some x → l.from ≤ x.from) → (b e s : Bool) → nat_lt l.from p ≡ b → (l.from == p) ≡ e → nat_lt l.from (p + 1) ≡ s
    → earlier (p + 1) ls ≡ earlier p ls ++ leaving p ls → cond s (l ∷ earlier (p + 1) ls) (earlier (p + 1) ls) ≡ cond b (l ∷ earlier p ls) (earlier p ls) ++ cond e (l ∷ leaving p ls) (leaving p ls)
one_before p l ls later true false true h i j rest = ap (λ z. l ∷ z) rest
one_before p l ls later false false false h i j rest = rest
one_before p l ls later false true true h i j rest =
    let none : earlier p ls ≡ [] = filter-none (λ link. nat_lt link.from p) ls (λ k x at. let up = later k x at in grind (arith, nat_tests, up)) in
    ap (λ z. l ∷ z) (rest ∙ ap (λ z. z ++ leaving p ls) none) ∙ sym (ap (λ z. z ++ l ∷ leaving p ls) none)
one_before p l ls later true true s h i j rest = absurd (grind (arith, nat_tests))
one_before p l ls later true false false h i j rest = absurd (grind (arith, nat_tests))
one_before p l ls later false true false h i j rest = absurd (grind (arith, nat_tests))
one_before p l ls later false false true h i j rest = absurd (grind (arith, nat_tests))

-- the links that leave the packages before `p`, then those that leave `p`
sorted_below : (p : ℕ) (ls : List LinkTable) → IsNonDecreasingBy (λ link. link.from) ls → earlier (p + 1) ls ≡ earlier p ls ++ leaving p ls
sorted_below p [] sorted = refl
sorted_below p (l ∷ ls) sorted =
    one_before p l ls (no_later l ls sorted) (nat_lt l.from p) (l.from == p) (nat_lt l.from (p + 1)) refl refl refl
    (sorted_below p ls (IsNonDecreasingBy-drop (λ link. link.from) 1 (l ∷ ls) sorted))

pub below-next : (t : Tables) (p : ℕ) → IsNonDecreasingBy (λ link. link.from) t.links → links_below t (p + 1) ≡ links_below t p ++ links_from t p
below-next t p sorted = sorted_below p t.links sorted

pub below-none : (t : Tables) → links_below t 0 ≡ []
below-none t = filter-none (λ link. nat_lt link.from 0) t.links (λ k link at. grind (arith, nat_tests))

pub below-all : (t : Tables) (n : ℕ) → ((k : ℕ) (link : LinkTable) → slice_get t.links k ≡ Some link → link.from < n) → links_below t n ≡ t.links
below-all t n ends = filter-all (λ link. nat_lt link.from n) t.links (λ k link at. let e = ends k link at in grind (arith, nat_tests, e))
