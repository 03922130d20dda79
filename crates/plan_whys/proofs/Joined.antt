-- The links between the numbers of pairs, sorted.
use Rattle.std.proofs.Common.{◌≡◌, ◌∙◌, inl, inr, ⊎_elim, ℕ, suc, ◌<◌, ◌≤◌, Bool, true, false, ◌&&◌, List, [], ◌∷◌, ◌++◌, Option, Some, None, refl, ap, sym, subst, arith, IsPermutation}
use Rattle.std.specs.Prelude.{◌==◌, AllPairs, Contains, flat_map, slice_index_or}
use Rattle.std.specs.List.{AllByRecursion, IsDistinct}
use Rattle.std.proofs.lemmas.Bool.{eqb-true, eq-eqb}
use Rattle.std.proofs.lemmas.Bool.Decides.{nat_tests}
use Rattle.std.proofs.lemmas.List.Elements.{Contains-append_cases, Contains-append_left, Contains-append_right}
use Rattle.std.proofs.lemmas.List.Sorted.{Contains-permutation, IsPermutation-sym}
use Rattle.std.proofs.lemmas.Map.Keys.{IsDistinct-IsPermutation, apart_from_distinct}
use Rattle.std.proofs.lemmas.Option.{slice_get-get_or}
use Rattle.feature_core.specs.Pairs.{IsBefore}
use Rattle.guppy_packages.specs.Tables.{HasNoRepeats}
use Rattle.guppy_packages.proofs.Ascending.{Contains-cases, Contains-first, Contains-later, Contains-none}
use Rattle.plan_whys.specs.links.Links.{ArePairsOf, index_of}
use Rattle.plan_whys.specs.links.inner.Pairs.{IsUpTo, Joins}
use Rattle.plan_whys.specs.links.inner.Places.{both}
use Rattle.plan_whys.proofs.Indexes.{same_number}

abbrev same_pair : ℕ × ℕ → ℕ × ℕ → Bool
same_pair a b = (a.0 == b.0) && (a.1 == b.1)

both_true : (a b : Bool) → (a && b) ≡ true → (a ≡ true) × (b ≡ true)
both_true true b h = (refl, h)
both_true false b h = cc

turned : (a b : ℕ) → (a == b) ≡ (b == a)
turned a b = grind (arith, nat_tests)

same_flips : (a b : ℕ × ℕ) → same_pair a b ≡ same_pair b a
same_flips a b = λ i. turned a.0 b.0 i && turned a.1 b.1 i

-- Lists without repeats.

pub later_once : {X : Type 0} (x : X) (xs : List X) → HasNoRepeats (x ∷ xs) → HasNoRepeats xs
later_once x xs once i j y a b = let same = once (suc i) (suc j) y a b in omega (arith, same)

pub first_once : {X : Type 0} (x : X) (xs : List X) → HasNoRepeats (x ∷ xs) → Contains xs x → ⊥
first_once x xs once h =
    let same = once 0 (suc h.0) x refl (slice_get-get_or xs h.0 x h.1 ∙ ap Some h.2) in
    omega (arith, same)

module _ (numbers : List ℕ) where
  abbrev joined : ℕ × ℕ → List (ℕ × ℕ)
  joined p = both (index_of numbers p.0) (index_of numbers p.1)

  -- Each link is there once.

  pair_is : (p r : ℕ × ℕ) (a b c d : ℕ) → index_of numbers p.0 ≡ Some a → index_of numbers p.1 ≡ Some b → index_of numbers r.0 ≡ Some c → index_of numbers r.1 ≡ Some d → same_pair (a, b) (c, d) ≡ true → r ≡ p
  pair_is p r a b c d pa pb rc rd same =
      let parts = both_true (a == c) (b == d) same in
      let first : p.0 ≡ r.0 = same_number numbers p.0 r.0 c (pa ∙ ap Some (eqb-true a c parts.0)) rc in
      let second : p.1 ≡ r.1 = same_number numbers p.1 r.1 d (pb ∙ ap Some (eqb-true b d parts.1)) rd in
      λ i. (sym first i, sym second i)

  module _ (p : ℕ × ℕ) (a b : ℕ) (pa : index_of numbers p.0 ≡ Some a) (pb : index_of numbers p.1 ≡ Some b) where
    none_with : (r : ℕ × ℕ) (rest : List (ℕ × ℕ)) (o q : Option ℕ) → index_of numbers r.0 ≡ o → index_of numbers r.1 ≡ q → (r ≡ p → ⊥) → AllByRecursion (λ y. same_pair (a, b) y ≡ false) rest
        → AllByRecursion (λ y. same_pair (a, b) y ≡ false) (both o q ++ rest)
    none_with r rest None q ro rq apart are = are
    none_with r rest (Some c) None ro rq apart are = are
    none_with r rest (Some c) (Some d) ro rq apart are = (other (same_pair (a, b) (c, d)) refl, are)
      where
        other : (t : Bool) → same_pair (a, b) (c, d) ≡ t → same_pair (a, b) (c, d) ≡ false
        other true e = absurd (apart (pair_is p r a b c d pa pb ro rq e))
        other false e = e

    none_same : (ps : List (ℕ × ℕ)) → (Contains ps p → ⊥) → AllByRecursion (λ y. same_pair (a, b) y ≡ false) (flat_map joined ps)
    none_same [] apart = tt
    none_same (r ∷ ps) apart =
        none_with r (flat_map joined ps) (index_of numbers r.0) (index_of numbers r.1) refl refl (λ e. apart (subst (Contains (r ∷ ps)) e (Contains-first r ps))) (none_same ps (λ h. apart (Contains-later r ps p h)))

  distinct_with : (p : ℕ × ℕ) (ps : List (ℕ × ℕ)) (o q : Option ℕ) → index_of numbers p.0 ≡ o → index_of numbers p.1 ≡ q → (Contains ps p → ⊥) → IsDistinct same_pair (flat_map joined ps)
      → IsDistinct same_pair (both o q ++ flat_map joined ps)
  unfolding IsDistinct
  distinct_with p ps None q po pq apart are = are
  distinct_with p ps (Some a) None po pq apart are = are
  distinct_with p ps (Some a) (Some b) po pq apart are = (none_same p a b po pq ps apart, are)

  none_distinct : IsDistinct same_pair []
  unfolding IsDistinct
  none_distinct = tt

  distinct : (ps : List (ℕ × ℕ)) → HasNoRepeats ps → IsDistinct same_pair (flat_map joined ps)
  distinct [] once = none_distinct
  distinct (p ∷ ps) once = distinct_with p ps (index_of numbers p.0) (index_of numbers p.1) refl refl (first_once p ps once) (distinct ps (later_once p ps once))

  -- The links are those of the pairs.

  both_are : (o q : Option ℕ) (a b : ℕ) → Contains (both o q) (a, b) → (o ≡ Some a) × (q ≡ Some b)
  both_are None q a b h = absurd (Contains-none (a, b) h)
  both_are (Some c) None a b h = absurd (Contains-none (a, b) h)
  both_are (Some c) (Some d) a b h = ⊎_elim
      (λ (e : (c, d) ≡ (a, b)). (ap (λ (z : ℕ × ℕ). Some z.0) e, ap (λ (z : ℕ × ℕ). Some z.1) e))
      (λ h. absurd (Contains-none (a, b) h))
      (Contains-cases (c, d) [] (a, b) h)

  both_has : (o q : Option ℕ) (a b : ℕ) → o ≡ Some a → q ≡ Some b → Contains (both o q) (a, b)
  both_has o q a b e f = subst (λ z. Contains (both z q) (a, b)) (sym e) (subst (λ z. Contains (both (Some a) z) (a, b)) (sym f) (Contains-first (a, b) []))

  joins : (ps : List (ℕ × ℕ)) (a b : ℕ) → Contains (flat_map joined ps) (a, b) → Joins numbers ps a b
  joins [] a b h = absurd (Contains-none (a, b) h)
  joins (p ∷ ps) a b h = ⊎_elim
      (λ i. let are = both_are (index_of numbers p.0) (index_of numbers p.1) a b i in record { pair = p; is_pair = Contains-first p ps; first = are.0; second = are.1 })
      (λ i. let r = joins ps a b i in record { pair = r.pair; is_pair = Contains-later p ps r.pair r.is_pair; first = r.first; second = r.second })
      (Contains-append_cases (joined p) (flat_map joined ps) (a, b) h)

  joined_has : (ps : List (ℕ × ℕ)) (r : ℕ × ℕ) (a b : ℕ) → Contains ps r → index_of numbers r.0 ≡ Some a → index_of numbers r.1 ≡ Some b → Contains (flat_map joined ps) (a, b)
  joined_has [] r a b h e f = absurd (Contains-none r h)
  joined_has (p ∷ ps) r a b h e f = ⊎_elim
      (λ same. Contains-append_left (joined p) (flat_map joined ps) (a, b) (both_has (index_of numbers p.0) (index_of numbers p.1) a b (ap (λ (z : ℕ × ℕ). index_of numbers z.0) same ∙ e) (ap (λ (z : ℕ × ℕ). index_of numbers z.1) same ∙ f)))
      (λ i. Contains-append_right (joined p) (flat_map joined ps) (a, b) (joined_has ps r a b i e f))
      (Contains-cases p ps r h)

-- Sorted and once each, they ascend.

apart_below : (x y : ℕ) → x ≤ y → (x == y) ≡ false → x < y
apart_below x y h e = grind (arith, nat_tests)

strictly : (a b : ℕ × ℕ) → IsUpTo a b → same_pair a b ≡ false → IsBefore a b
strictly a b (inl h) e = inl h
strictly a b (inr h) e =
    let second : (a.1 == b.1) ≡ false = subst (λ t. (t && (a.1 == b.1)) ≡ false) (eq-eqb a.0 b.0 h.0) e in
    inr (h.0, apart_below a.1 b.1 h.1 second)

pub sorted_links : (numbers : List ℕ) (pairs made links : List (ℕ × ℕ)) → HasNoRepeats pairs → made ≡ flat_map (λ p. both (index_of numbers p.0) (index_of numbers p.1)) pairs → IsPermutation made links
    → AllPairs IsUpTo links → ArePairsOf (Joins numbers pairs) links
sorted_links numbers pairs made links once is moved up =
    let all = flat_map (λ p. both (index_of numbers p.0) (index_of numbers p.1)) pairs in
    let from_all : IsPermutation all links = subst (λ l. IsPermutation l links) is moved in
    let apart : IsDistinct same_pair links = IsDistinct-IsPermutation same_pair same_flips all links from_all (distinct numbers pairs once) in
    record {
      ascend = λ i j d lt within. strictly (slice_index_or links i d) (slice_index_or links j d) (up i j d lt within) (apart_from_distinct same_pair links i j d apart lt within);
      exact = λ a b. (
        (λ h. joins numbers pairs a b (Contains-permutation links all (a, b) (IsPermutation-sym all links from_all) h)),
        (λ r. Contains-permutation all links (a, b) from_all (joined_has numbers pairs r.pair a b r.is_pair r.first r.second)),
      );
    }
