-- Lists whose elements are related place by place.
use Rattle.std.proofs.Common.{◌≡◌, ℕ, zero, suc, ◌+◌, ◌<◌, ◌≤◌, ◌⊎◌, inl, inr, ⊎_elim, Bool, true, false, ◌||◌, List, [], ◌∷◌, ◌++◌, length, map, take, Some, refl, subst, sym, ap, ◌∙◌, arith}
use Rattle.std.specs.Prelude.{IsTrue, Contains, slice_get, slice_index_or, ◌==◌}
use Rattle.std.specs.List.{AllZip}
use Rattle.std.proofs.lemmas.Bool.{eqb-true}
use Rattle.std.proofs.lemmas.List.{map-append, take_all}
use Rattle.std.proofs.lemmas.Option.{slice_get-get_or}
use Rattle.std.proofs.lemmas.List.Elements.{Contains-append_right}
use Rattle.walk_engine.specs.Explanations.{nodes_of}
use Rattle.walk_engine.specs.Walks.{is_in}
use Rattle.walk_engine.specs.declared.walks.Step.{Step}

module _ {A B : Type 0} (R : A → B → Type 0) where
  -- the next element of each list
  pub zip_more : (xs : List A) (ys : List B) (i : ℕ) (x : A) (y : B) → slice_get xs i ≡ Some x → AllZip R (take i xs) ys → R x y → AllZip R (take (i + 1) xs) (ys ++ y ∷ [])
  zip_more [] ys i x y at zip r = cc
  zip_more (z ∷ xs) [] zero x y at zip r = let same : x ≡ z = cc in (subst (λ v. R v y) same r, tt)
  zip_more (z ∷ xs) (w ∷ ys) zero x y at zip r = absurd zip
  zip_more (z ∷ xs) [] (suc i) x y at zip r = absurd zip
  zip_more (z ∷ xs) (w ∷ ys) (suc i) x y at zip r =
      let next : suc (i + 1) ≡ suc i + 1 = omega arith in
      subst (λ m. AllZip R (take m (z ∷ xs)) (w ∷ ys ++ y ∷ [])) next (zip.0, zip_more xs ys i x y at zip.1 r)

  pub zip_whole : (xs : List A) (ys : List B) (i : ℕ) → length xs ≤ i → AllZip R (take i xs) ys → AllZip R xs ys
  zip_whole xs ys i past zip = subst (λ l. AllZip R l ys) (take_all i xs past) zip

  -- the same, if the element is read with a default
  pub zip_next : (xs : List A) (ys next : List B) (i : ℕ) (d : A) (y : B) → i < length xs → AllZip R (take i xs) ys → R (slice_index_or xs i d) y → next ≡ ys ++ y ∷ [] → AllZip R (take (i + 1) xs) next
  zip_next xs ys next i d y within zip r same =
      subst (AllZip R (take (i + 1) xs)) (sym same) (zip_more xs ys i (slice_index_or xs i d) y (slice_get-get_or xs i d within) zip r)

  -- the elements at a place
  pub zip_at : (xs : List A) (ys : List B) (k : ℕ) (y : B) → AllZip R xs ys → slice_get ys k ≡ Some y → (x : A) × (slice_get xs k ≡ Some x) × R x y
  zip_at [] [] k y zip at = cc
  zip_at [] (w ∷ ys) k y zip at = absurd zip
  zip_at (z ∷ xs) [] k y zip at = absurd zip
  zip_at (z ∷ xs) (w ∷ ys) zero y zip at = let same : w ≡ y = cc in (z, refl, subst (R z) same zip.0)
  zip_at (z ∷ xs) (w ∷ ys) (suc k) y zip at = zip_at xs ys k y zip.1 at

  -- the last elements
  pub zip_last : (before : List A) (x : A) (ys : List B) → AllZip R (before ++ x ∷ []) ys → (front : List B) × (y : B) × (ys ≡ front ++ y ∷ []) × R x y
  zip_last [] x [] zip = absurd zip
  zip_last [] x (y ∷ []) zip = ([], y, refl, zip.0)
  zip_last [] x (y ∷ z ∷ ys) zip = absurd zip.1
  zip_last (z ∷ before) x [] zip = absurd zip
  zip_last (z ∷ before) x (w ∷ ys) zip =
      let rest = zip_last before x ys zip.1 in
      (w ∷ rest.0, rest.1, ap (λ l. w ∷ l) rest.2, rest.3)

or_cases : (a b : Bool) → IsTrue (a || b) → IsTrue a ⊎ IsTrue b
or_cases true b h = inl refl
or_cases false b h = inr h

contains_first : {X : Type 0} (xs : List X) (x y : X) → x ≡ y → Contains (x ∷ xs) y
contains_first xs x y same = (0, omega arith, same)

module _ {B S : Type 0} (R : Step → B → Type 0) (At : ℕ → S → Type 0) (spot : B → S) where
  -- a node among the first `k` steps is at the place of one of the first `k` elements
  pub earlier_at : (steps : List Step) (ys : List B) (k n : ℕ) (s : S) → ((m : ℕ) (a b : S) → At m a → At m b → a ≡ b) → ((step : Step) (y : B) → R step y → At step.node (spot y)) → AllZip R steps ys → IsTrue (is_in (take k (nodes_of steps)) n) → At n s → Contains (map spot (take k ys)) s
  earlier_at [] [] zero n s one is zip h at = cc
  earlier_at [] [] (suc k) n s one is zip h at = cc
  earlier_at [] (y ∷ ys) k n s one is zip h at = absurd zip
  earlier_at (step ∷ steps) [] k n s one is zip h at = absurd zip
  earlier_at (step ∷ steps) (y ∷ ys) zero n s one is zip h at = cc
  earlier_at (step ∷ steps) (y ∷ ys) (suc k) n s one is zip h at = ⊎_elim
      (λ e. contains_first (map spot (take k ys)) (spot y) s (one n (spot y) s (subst (λ m. At m (spot y)) (eqb-true step.node n e) (is step y zip.0)) at))
      (λ e. Contains-append_right (spot y ∷ []) (map spot (take k ys)) s (earlier_at steps ys k n s one is zip.1 e at))
      (or_cases (step.node == n) (is_in (take k (nodes_of steps)) n) h)

-- the next element of each list, where the first list is seen by `view`
module _ {A B C : Type 0} (R : C → B → Type 0) (view : A → C) where
  viewed_more : (xs : List A) (ys : List B) (i : ℕ) (x : A) (y : B) → slice_get xs i ≡ Some x → AllZip R (map view (take i xs)) ys → R (view x) y → AllZip R (map view (take (i + 1) xs)) (ys ++ y ∷ [])
  viewed_more [] ys i x y at zip r = cc
  viewed_more (z ∷ xs) [] zero x y at zip r = let same : x ≡ z = cc in (subst (λ v. R (view v) y) same r, tt)
  viewed_more (z ∷ xs) (w ∷ ys) zero x y at zip r = absurd zip
  viewed_more (z ∷ xs) [] (suc i) x y at zip r = absurd zip
  viewed_more (z ∷ xs) (w ∷ ys) (suc i) x y at zip r =
      let next : suc (i + 1) ≡ suc i + 1 = omega arith in
      subst (λ m. AllZip R (map view (take m (z ∷ xs))) (w ∷ ys ++ y ∷ [])) next (zip.0, viewed_more xs ys i x y at zip.1 r)

  pub zip_viewed : (xs : List A) (ys next : List B) (i : ℕ) (d : A) (y : B) → i < length xs → AllZip R (map view (take i xs)) ys → R (view (slice_index_or xs i d)) y → next ≡ ys ++ y ∷ [] → AllZip R (map view (take (i + 1) xs)) next
  zip_viewed xs ys next i d y within zip r same =
      subst (AllZip R (map view (take (i + 1) xs))) (sym same) (viewed_more xs ys i (slice_index_or xs i d) y (slice_get-get_or xs i d within) zip r)

-- the views of a list with one more element
pub map_pushed : {X Y : Type 0} (f : X → Y) (old new : List X) (x : X) → new ≡ old ++ x ∷ [] → map f new ≡ map f old ++ f x ∷ []
map_pushed f old new x same = ap (map f) same ∙ map-append f old (x ∷ [])
