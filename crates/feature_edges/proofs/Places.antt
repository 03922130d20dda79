-- A node's number is the first node of its package and the label's place there.
use Rattle.std.proofs.Common.{◌≡◌, ℕ, zero, suc, ◌+◌, ◌⊎◌, inl, inr, ⊎_elim, List, ◌∷◌, [], ◌++◌, length, map, take, Option, None, Some, refl, ap, sym, ◌∙◌, subst, arith, length-append}
use Rattle.std.specs.Prelude.{slice_get, flat_map}
use Rattle.std.specs.Option.{option_map}
use Rattle.std.proofs.lemmas.List.{length-map}
use Rattle.std.proofs.lemmas.Option.{slice_get-map}
use Rattle.guppy_packages.specs.Tables.{PackageTable, Tables}
use Rattle.feature_labels.specs.Names.{LabelName}
use Rattle.feature_edges.specs.Nodes.{labels_of, spread, NodeAt, first_node}
use Rattle.feature_links.specs.Links.{IsPackage}

pub get_left : {X : Type 0} (a b : List X) (n : ℕ) (y : X) → slice_get a n ≡ Some y → slice_get (a ++ b) n ≡ Some y
get_left [] b n y h = cc
get_left (x ∷ a) b zero y h = h
get_left (x ∷ a) b (suc n) y h = get_left a b n y h

pub get_right : {X : Type 0} (a b : List X) (n m : ℕ) → n ≡ length a + m → slice_get (a ++ b) n ≡ slice_get b m
get_right [] b n m h = ap (slice_get b) (omega arith)
get_right (x ∷ a) b zero m h = absurd (omega arith)
get_right (x ∷ a) b (suc n) m h = get_right a b n m (omega arith)

-- the element at `n` is in the first list or in the second
pub get_cases : {X : Type 0} (a b : List X) (n : ℕ) (y : X) → slice_get (a ++ b) n ≡ Some y → (slice_get a n ≡ Some y) ⊎ ((m : ℕ) × (n ≡ length a + m) × (slice_get b m ≡ Some y))
get_cases [] b n y h = inr (n, omega arith, h)
get_cases (x ∷ a) b zero y h = inl h
get_cases (x ∷ a) b (suc n) y h = ⊎_elim (λ e. inl e) (λ e. inr (e.0, omega (arith, e.1), e.2)) (get_cases a b n y h)

pub got_map : {X Y : Type 0} (f : X → Y) (o : Option X) (y : Y) → option_map f o ≡ Some y → (x : X) × (o ≡ Some x) × (f x ≡ y)
got_map f None y h = cc
got_map f (Some x) y h = (x, refl, cc)

pub got_same : {X : Type 0} (x y : X) → ◌≡◌ {A = Option X} (Some x) (Some y) → x ≡ y
got_same x y h = cc

-- element `n` of the spread list is this element of list `p`
pub record IsSpread {A B : Type 0} (f : A → List B) (xs : List A) (n p : ℕ) (y : B) : Type 0 where
  pub row : A
  pub is_row : slice_get xs p ≡ Some row
  pub place : ℕ
  pub is_place : slice_get (f row) place ≡ Some y
  pub is : n ≡ length (flat_map f (take p xs)) + place

same_row : {X : Type 0} (n : ℕ) (a b : List X) (k : ℕ) (y : X) → a ≡ b → slice_get b k ≡ Some y → n ≡ 0 + k → slice_get a n ≡ Some y
same_row n a b k y e h i = subst (λ z. slice_get z n ≡ Some y) (sym e) (subst (λ z. slice_get b z ≡ Some y) (omega arith) h)

module _ {A B : Type 0} (f : A → List B) where
  long : (q : ℕ) (x : A) → length (map {B = ℕ × B} (λ z. (q, z)) (f x)) ≡ length (f x)
  long q x = simp length-map

  in_row : (q n : ℕ) (x : A) (y : B) → slice_get (f x) n ≡ Some y → slice_get {X = ℕ × B} (map (λ z. (q, z)) (f x)) n ≡ Some (q, y)
  in_row q n x y h = slice_get-map (λ z. (q, z)) (f x) n ∙ ap (option_map (λ z. (q, z))) h

  pub there : (q p n : ℕ) (xs : List A) (y : B) → IsSpread f xs n p y → slice_get (spread f q xs) n ≡ Some (q + p, y)
  there q p n [] y h = let e = h.is_row in cc
  there q zero n (x ∷ xs) y h =
      let at : slice_get (f x) n ≡ Some y = same_row n (f x) (f h.row) h.place y (ap f (got_same x h.row h.is_row)) h.is_place h.is in
      get_left (map (λ z. (q, z)) (f x)) (spread f (q + 1) xs) n (q + 0, y) (in_row q n x y at ∙ ap (λ z. Some (z, y)) (omega arith))
  there q (suc p) n (x ∷ xs) y h =
      let m : ℕ = length (flat_map f (take p xs)) + h.place in
      get_right (map (λ z. (q, z)) (f x)) (spread f (q + 1) xs) n m (omega (arith, long q x, h.is, length-append (f x) (flat_map f (take p xs))))
      ∙ there (q + 1) p m xs y (record { row = h.row; is_row = h.is_row; place = h.place; is_place = h.is_place; is = refl }) ∙ ap (λ z. Some (z, y)) (omega arith)

  later : (x : A) (xs : List A) (n m p : ℕ) (y : B) → n ≡ length (f x) + m → IsSpread f xs m p y → IsSpread f (x ∷ xs) n (suc p) y
  later x xs n m p y e h = record { row = h.row; is_row = h.is_row; place = h.place; is_place = h.is_place; is = omega (arith, h.is, length-append (f x) (flat_map f (take p xs))) }

  pub back : (q n r : ℕ) (xs : List A) (y : B) → slice_get (spread f q xs) n ≡ Some (r, y) → (p : ℕ) × (r ≡ q + p) × IsSpread f xs n p y
  back q n r [] y h = cc
  back q n r (x ∷ xs) y h = ⊎_elim
      (λ e.
      let g = got_map (λ z. (q, z)) (slice_get (f x) n) (r, y) (sym (slice_get-map (λ z. (q, z)) (f x) n) ∙ e) in
      let one : q ≡ r = ap (λ z. z.0) g.2 in
      (0, omega arith, record { row = x; is_row = refl; place = n; is_place = g.1 ∙ ap Some (ap (λ z. z.1) g.2); is = omega arith }))
      (λ e.
      let g = back (q + 1) e.0 r xs y e.2 in
      (suc g.0, omega (arith, g.1), later x xs n e.0 g.0 y (e.1 ∙ ap (λ z. z + e.0) (long q x)) g.2))
      (get_cases (map (λ z. (q, z)) (f x)) (spread f (q + 1) xs) n (r, y) h)

-- the label at a place of its package is the node with that number
pub node_there : (t : Tables) (p k : ℕ) (table : PackageTable) (label : LabelName) → IsPackage t p table → slice_get (labels_of table) k ≡ Some label → NodeAt t (first_node t p + k) p label
node_there t p k table label h i =
    there labels_of 0 p (first_node t p + k) t.packages label (record { row = table; is_row = h; place = k; is_place = i; is = refl })
    ∙ ap (λ z. Some (z, label)) (omega arith)

-- a node is a label of its package
pub node_back : (t : Tables) (n p : ℕ) (label : LabelName) → NodeAt t n p label → IsSpread labels_of t.packages n p label
node_back t n p label h = let b = back labels_of 0 n p t.packages label h in subst (λ z. IsSpread labels_of t.packages n z label) (sym (b.1 ∙ omega arith)) b.2
