-- The declarations that pass, by their places.
use Rattle.std.proofs.Common.{◌≡◌, ℕ, zero, suc, ◌+◌, ◌<◌, ◌≤◌, ⊎_elim, List, [], ◌∷◌, length, get_or, Bool, true, false, cond, Some, refl, ap, sym, ◌∙◌, subst, arith}
use Rattle.std.specs.Prelude.{filter, slice_get, Contains, AllPairs}
use Rattle.std.specs.List.{cons_option}
use Rattle.guppy_packages.specs.Rows.{Declared}
use Rattle.guppy_packages.specs.Tables.{LinkTable}
use Rattle.feature_labels.specs.declared.link_declarations.LinkDeclarations.{LinkDeclarations}
use Rattle.feature_links.specs.Links.{ArePassing, at_places, over, over_parts}
use Rattle.feature_links.proofs.ElementLemmas.{Contains-first, Contains-later, Contains-cases, Contains-none}
use Rattle.feature_links.proofs.LinkLemmas.{over_of_parts}

-- ascending, from low on
abbrev IsFrom : ℕ → List ℕ → Type 0
IsFrom low [] = Unit {0}
IsFrom low (x ∷ xs) = (low ≤ x) × IsFrom (suc x) xs

from_pairs : (low : ℕ) (xs : List ℕ) → ((d : ℕ) → 0 < length xs → low ≤ get_or xs 0 d) → AllPairs (λ a b. a < b) xs → IsFrom low xs
from_pairs low [] first h = tt
from_pairs low (x ∷ xs) first h = (first 0 (omega arith), from_pairs (suc x) xs (λ d l. h 0 1 d (omega arith) (omega arith)) (λ i j d l m. h (suc i) (suc j) d (omega arith) (omega arith)))

at_least : (low : ℕ) (xs : List ℕ) (j : ℕ) → IsFrom low xs → Contains xs j → low ≤ j
at_least low [] j f h = absurd (Contains-none j h)
at_least low (x ∷ xs) j f h = ⊎_elim (λ e. omega (arith, e, f.0)) (λ e. omega (arith, f.0, at_least (suc x) xs j f.1 e)) (Contains-cases x xs j h)

-- two such lists with the same members are equal
one_list : (low : ℕ) (xs ys : List ℕ) → IsFrom low xs → IsFrom low ys → ((j : ℕ) → Contains xs j → Contains ys j) → ((j : ℕ) → Contains ys j → Contains xs j) → xs ≡ ys
one_list low [] [] f g there back = refl
one_list low [] (y ∷ ys) f g there back = absurd (Contains-none y (back y (Contains-first y ys)))
one_list low (x ∷ xs) [] f g there back = absurd (Contains-none x (there x (Contains-first x xs)))
one_list low (x ∷ xs) (y ∷ ys) f g there back =
    let same : x ≡ y = ⊎_elim (λ e. sym e) (λ a. ⊎_elim (λ e. e) (λ b. absurd (omega (arith, at_least (suc y) ys x g.1 a, at_least (suc x) xs y f.1 b))) (Contains-cases x xs y (back y (Contains-first y ys)))) (Contains-cases y ys x (there x (Contains-first x xs))) in
    let rest : xs ≡ ys = one_list (suc x) xs ys f.1 (subst (λ z. IsFrom (suc z) ys) (sym same) g.1)
    (λ j h. ⊎_elim (λ e. absurd (omega (arith, e, same, at_least (suc x) xs j f.1 h))) (λ k. k) (Contains-cases y ys j (there j (Contains-later x xs j h))))
    (λ j h. ⊎_elim (λ e. absurd (omega (arith, e, same, at_least (suc y) ys j g.1 h))) (λ k. k) (Contains-cases x xs j (back j (Contains-later y ys j h)))) in
    cc

module _ (passes : Declared → Bool) where
  -- the places of the declarations that pass, from `q` on
  abbrev places_from : ℕ → List Declared → List ℕ
  places_from q [] = []
  places_from q (d ∷ ds) = cond (passes d) (q ∷ places_from (q + 1) ds) (places_from (q + 1) ds)

  lower : (low high : ℕ) (xs : List ℕ) → low ≤ high → IsFrom high xs → IsFrom low xs
  lower low high [] l f = tt
  lower low high (x ∷ xs) l f = (omega (arith, f.0), f.1)

  ascending : (q : ℕ) (ds : List Declared) → IsFrom q (places_from q ds)
  ascending q [] = tt
  ascending q (d ∷ ds) = go (passes d) (ascending (q + 1) ds)
    where
      go : (b : Bool) → IsFrom (q + 1) (places_from (q + 1) ds) → IsFrom q (cond b (q ∷ places_from (q + 1) ds) (places_from (q + 1) ds))
      go true f = let e : q + 1 ≡ suc q = omega arith in (omega arith, subst (λ z. IsFrom z (places_from (q + 1) ds)) e f)
      go false f = lower q (q + 1) (places_from (q + 1) ds) (omega arith) f

  at_all : (all : List Declared) (q : ℕ) (ds : List Declared) → ((j : ℕ) (d : Declared) → slice_get ds j ≡ Some d → slice_get all (q + j) ≡ Some d) → at_places all (places_from q ds) ≡ filter passes ds
  at_all all q [] h = refl
  at_all all q (d ∷ ds) h =
      go (passes d) (at_all all (q + 1) ds (λ j m e. let same : q + suc j ≡ q + 1 + j = omega arith in subst (λ z. slice_get all z ≡ Some m) same (h (suc j) m e)))
    where
      here : slice_get all q ≡ Some d
      here = let same : q + 0 ≡ q = omega arith in subst (λ z. slice_get all z ≡ Some d) same (h 0 d refl)

      go : (b : Bool) → at_places all (places_from (q + 1) ds) ≡ filter passes ds → at_places all (cond b (q ∷ places_from (q + 1) ds) (places_from (q + 1) ds)) ≡ cond b (d ∷ filter passes ds) (filter passes ds)
      go true more = ap (λ o. cons_option o (at_places all (places_from (q + 1) ds))) here ∙ ap (λ z. d ∷ z) more
      go false more = more

  passing_place : (q : ℕ) (ds : List Declared) (j : ℕ) → Contains (places_from q ds) j → (i : ℕ) × (j ≡ q + i) × ((d : Declared) × (slice_get ds i ≡ Some d) × (passes d ≡ true))
  passing_place q [] j h = absurd (Contains-none j h)
  passing_place q (d ∷ ds) j h = go (passes d) refl (λ e. let r = passing_place (q + 1) ds j e in (suc r.0, omega (arith, r.1), r.2)) h
    where
      go : (b : Bool) → passes d ≡ b → (Contains (places_from (q + 1) ds) j → (i : ℕ) × (j ≡ q + i) × ((m : Declared) × (slice_get (d ∷ ds) i ≡ Some m) × (passes m ≡ true)))
          → Contains (cond b (q ∷ places_from (q + 1) ds) (places_from (q + 1) ds)) j → (i : ℕ) × (j ≡ q + i) × ((m : Declared) × (slice_get (d ∷ ds) i ≡ Some m) × (passes m ≡ true))
      go true t later c = ⊎_elim (λ e. (0, omega (arith, e), (d, refl, t))) later (Contains-cases q (places_from (q + 1) ds) j c)
      go false t later c = later c

  place_passing : (q : ℕ) (ds : List Declared) (i : ℕ) (d : Declared) → slice_get ds i ≡ Some d → passes d ≡ true → Contains (places_from q ds) (q + i)
  place_passing q [] i d h p = cc
  place_passing q (m ∷ ds) zero d h p =
      let same : m ≡ d = cc in
      let zeroth : q ≡ q + 0 = omega arith in
      go (passes m) (ap passes same ∙ p) zeroth
    where
      go : (b : Bool) → b ≡ true → q ≡ q + 0 → Contains (cond b (q ∷ places_from (q + 1) ds) (places_from (q + 1) ds)) (q + 0)
      go true t e = subst (λ z. Contains (q ∷ places_from (q + 1) ds) z) e (Contains-first q (places_from (q + 1) ds))
      go false t e = cc
  place_passing q (m ∷ ds) (suc i) d h p = go (passes m) (let e : q + 1 + i ≡ q + suc i = omega arith in subst (Contains (places_from (q + 1) ds)) e (place_passing (q + 1) ds i d h p))
    where
      go : (b : Bool) → Contains (places_from (q + 1) ds) (q + suc i) → Contains (cond b (q ∷ places_from (q + 1) ds) (places_from (q + 1) ds)) (q + suc i)
      go true c = Contains-later q (places_from (q + 1) ds) (q + suc i) c
      go false c = c

  passing_at : (ds : List Declared) (places : List ℕ) → ArePassing passes ds places → at_places ds places ≡ filter passes ds
  passing_at ds places h =
      ap (at_places ds) (one_list 0 places (places_from 0 ds) (from_pairs 0 places (λ d l. omega arith) h.ascend) (ascending 0 ds)
      (λ j c. let r = (h.exact j).0 c in let e : 0 + j ≡ j = omega arith in subst (Contains (places_from 0 ds)) e (place_passing 0 ds j r.0 r.1 r.2))
      (λ j c. let r = passing_place 0 ds j c in (h.exact j).1 (r.2.0, (let e : r.0 ≡ j = omega (arith, r.1) in subst (λ z. slice_get ds z ≡ Some r.2.0) e r.2.1), r.2.2)))
      ∙ at_all ds 0 ds (λ j d e. let same : j ≡ 0 + j = omega arith in subst (λ z. slice_get ds z ≡ Some d) same e)

  -- the link over the declarations of one package link that pass
  pub passing_over : (which : LinkDeclarations) (k : ℕ) (link : LinkTable) (places : List ℕ) → ArePassing passes link.declarations places → over_parts which ((k, at_places link.declarations places) ∷ []) ≡ over which passes ((k, link) ∷ [])
  passing_over which k link places h = ap (λ z. over_parts which ((k, z) ∷ [])) (passing_at link.declarations places h) ∙ over_of_parts which passes ((k, link) ∷ [])
