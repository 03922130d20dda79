-- Ascending lists: how they are joined, and that their elements determine them.
use Rattle.std.proofs.Common.{◌≡◌, ℕ, zero, suc, ◌+◌, ◌<◌, ◌≤◌, ◌⊎◌, inl, inr, ⊎_elim, List, [], ◌∷◌, ◌++◌, Option, None, Some, map, length, refl, ap, sym, ◌∙◌, subst, arith}
use Rattle.std.specs.Prelude.{All, AllPairs, Contains, filter_map, slice_get, slice_index_or}
use Rattle.std.specs.List.{cons_option, flat_map, range_with_len}
use Rattle.std.proofs.lemmas.List.Elements.{All-cons, Contains-append_cases, Contains-append_left, Contains-append_right}
use Rattle.std.proofs.lemmas.List.Kept.{AllPairs-cons}

pub Contains-first : {X : Type 0} (x : X) (xs : List X) → Contains (x ∷ xs) x
Contains-first x xs = (0, omega arith, refl)

pub Contains-later : {X : Type 0} (x : X) (xs : List X) (y : X) → Contains xs y → Contains (x ∷ xs) y
Contains-later x xs y h = (suc h.0, omega arith, h.2)

at_cons : {X : Type 0} (x : X) (xs : List X) (y : X) (k : ℕ) → k < suc (length xs) → slice_index_or (x ∷ xs) k y ≡ y → (x ≡ y) ⊎ Contains xs y
at_cons x xs y zero l e = inl e
at_cons x xs y (suc k) l e = inr (k, omega arith, e)

pub Contains-cases : {X : Type 0} (x : X) (xs : List X) (y : X) → Contains (x ∷ xs) y → (x ≡ y) ⊎ Contains xs y
Contains-cases x xs y h = at_cons x xs y h.0 h.1 h.2

pub Contains-none : {X : Type 0} (x : X) → Contains [] x → ⊥
Contains-none x h = omega (arith, h.1)

pub All-of : {X : Type 0} (P : X → Type 0) (xs : List X) → ((x : X) → Contains xs x → P x) → All P xs
All-of P [] h = λ k d l. absurd (omega (arith, l))
All-of P (x ∷ xs) h = All-cons P x xs (h x (Contains-first x xs)) (All-of P xs (λ y c. h y (Contains-later x xs y c)))

pub from_map : {X Y : Type 0} (f : X → Y) (xs : List X) (y : Y) → Contains (map f xs) y → (x : X) × Contains xs x × (f x ≡ y)
from_map f [] y h = absurd (Contains-none y h)
from_map f (x ∷ xs) y h = ⊎_elim
    (λ e. (x, Contains-first x xs, e))
    (λ i. let r = from_map f xs y i in (r.0, Contains-later x xs r.0 r.1, r.2))
    (Contains-cases (f x) (map f xs) y h)

pub into_map : {X Y : Type 0} (f : X → Y) (xs : List X) (x : X) → Contains xs x → Contains (map f xs) (f x)
into_map f [] x h = absurd (Contains-none x h)
into_map f (z ∷ xs) x h = ⊎_elim
    (λ e. subst (λ q. Contains (map f (z ∷ xs)) (f q)) e (Contains-first (f z) (map f xs)))
    (λ i. Contains-later (f z) (map f xs) (f x) (into_map f xs x i))
    (Contains-cases z xs x h)

pub place_of_element : {X : Type 0} (xs : List X) (x : X) → Contains xs x → (k : ℕ) × (slice_get xs k ≡ Some x)
place_of_element [] x h = absurd (Contains-none x h)
place_of_element (y ∷ ys) x h = ⊎_elim
    (λ e. (0, ap Some e))
    (λ e. let r = place_of_element ys x e in (suc r.0, r.1))
    (Contains-cases y ys x h)

-- the values of `f` for the numbers from `a` up to `a + n`
module _ {X : Type 0} (f : ℕ → Option X) where
  pub from_options : (a n : ℕ) (x : X) → Contains (filter_map f (range_with_len a n)) x → (i : ℕ) × (a ≤ i) × (i < a + n) × (f i ≡ Some x)
  from_options a zero x h = absurd (Contains-none x h)
  from_options a (suc n) x h = go (f a) refl h (from_options (a + 1) n x)
    where
      go : (o : Option X) → f a ≡ o → Contains (cons_option o (filter_map f (range_with_len (a + 1) n))) x
          → (Contains (filter_map f (range_with_len (a + 1) n)) x → (i : ℕ) × (a + 1 ≤ i) × (i < a + 1 + n) × (f i ≡ Some x))
          → (i : ℕ) × (a ≤ i) × (i < a + suc n) × (f i ≡ Some x)
      go None e c more = let r = more c in (r.0, omega (arith, r.1), omega (arith, r.2), r.3)
      go (Some y) e c more = ⊎_elim
          (λ s. (a, omega arith, omega arith, e ∙ ap Some s))
          (λ i. let r = more i in (r.0, omega (arith, r.1), omega (arith, r.2), r.3))
          (Contains-cases y (filter_map f (range_with_len (a + 1) n)) x c)

  pub into_options : (a n i : ℕ) (x : X) → a ≤ i → i < a + n → f i ≡ Some x → Contains (filter_map f (range_with_len a n)) x
  into_options a zero i x p q e = absurd (omega (arith, p, q))
  into_options a (suc n) i x p q e = ⊎_elim
      (λ s. subst (λ o. Contains (cons_option o (filter_map f (range_with_len (a + 1) n))) x) (sym (ap f s ∙ e)) (Contains-first x _))
      (λ l. add (f a) (into_options (a + 1) n i x (omega (arith, l)) (omega (arith, q)) e))
      (first_or_later a i p)
    where
      first_or_later : (a i : ℕ) → a ≤ i → (a ≡ i) ⊎ (a < i)
      first_or_later a i p = grind arith

      add : (o : Option X) → Contains (filter_map f (range_with_len (a + 1) n)) x → Contains (cons_option o (filter_map f (range_with_len (a + 1) n))) x
      add None c = c
      add (Some y) c = Contains-later y _ x c

-- the same for lists of values
module _ {X : Type 0} (f : ℕ → List X) where
  pub from_lists : (a n : ℕ) (x : X) → Contains (flat_map f (range_with_len a n)) x → (i : ℕ) × (a ≤ i) × (i < a + n) × Contains (f i) x
  from_lists a zero x h = absurd (Contains-none x h)
  from_lists a (suc n) x h = ⊎_elim
      (λ c. (a, omega arith, omega arith, c))
      (λ c. let r = from_lists (a + 1) n x c in (r.0, omega (arith, r.1), omega (arith, r.2), r.3))
      (Contains-append_cases (f a) (flat_map f (range_with_len (a + 1) n)) x h)

  pub into_lists : (a n i : ℕ) (x : X) → a ≤ i → i < a + n → Contains (f i) x → Contains (flat_map f (range_with_len a n)) x
  into_lists a zero i x p q c = absurd (omega (arith, p, q))
  into_lists a (suc n) i x p q c = ⊎_elim
      (λ s. Contains-append_left (f a) _ x (subst (λ k. Contains (f k) x) (sym s) c))
      (λ l. Contains-append_right (f a) _ x (into_lists (a + 1) n i x (omega (arith, l)) (omega (arith, q)) c))
      (first_or_later a i p)
    where
      first_or_later : (a i : ℕ) → a ≤ i → (a ≡ i) ⊎ (a < i)
      first_or_later a i p = grind arith

module _ {X : Type 0} (R : X → X → Type 0) where
  pub AllPairs-first : (x : X) (xs : List X) → AllPairs R (x ∷ xs) → All (R x) xs
  AllPairs-first x xs h k d l = h 0 (suc k) d (omega arith) (omega arith)

  pub AllPairs-later : (x : X) (xs : List X) → AllPairs R (x ∷ xs) → AllPairs R xs
  AllPairs-later x xs h i j d l m = h (suc i) (suc j) d (omega arith) (omega arith)

  pub later_is : (x : X) (xs : List X) → AllPairs R (x ∷ xs) → (y : X) → Contains xs y → R x y
  later_is x xs h y c = subst (λ z. R x z) c.2 (AllPairs-first x xs h c.0 y c.1)

  pub AllPairs-none : AllPairs R []
  AllPairs-none i j d l m = absurd (omega (arith, m))

  pub AllPairs-append : (xs ys : List X) → AllPairs R xs → AllPairs R ys → ((x y : X) → Contains xs x → Contains ys y → R x y) → AllPairs R (xs ++ ys)
  AllPairs-append [] ys a b h = b
  AllPairs-append (x ∷ xs) ys a b h =
      AllPairs-cons R x (xs ++ ys)
      (All-of (R x) (xs ++ ys) (λ y c. ⊎_elim (λ i. later_is x xs a y i) (λ i. h x y (Contains-first x xs) i) (Contains-append_cases xs ys y c)))
      (AllPairs-append xs ys (AllPairs-later x xs a) b (λ u v c d. h u v (Contains-later x xs u c) d))

  -- consecutive lists, each ascending
  pub lists_ascend : (f : ℕ → List X) → ((i : ℕ) → AllPairs R (f i)) → ((i j : ℕ) (x y : X) → i < j → Contains (f i) x → Contains (f j) y → R x y)
      → (a n : ℕ) → AllPairs R (flat_map f (range_with_len a n))
  lists_ascend f each apart a zero = AllPairs-none
  lists_ascend f each apart a (suc n) =
      AllPairs-append (f a) (flat_map f (range_with_len (a + 1) n)) (each a) (lists_ascend f each apart (a + 1) n)
      (λ x y c d. let r = from_lists f (a + 1) n y d in apart a r.0 x y (omega (arith, r.1)) c r.3)

  pub options_ascend : (f : ℕ → Option X) → ((i j : ℕ) (x y : X) → i < j → f i ≡ Some x → f j ≡ Some y → R x y)
      → (a n : ℕ) → AllPairs R (filter_map f (range_with_len a n))
  options_ascend f apart a zero = AllPairs-none
  options_ascend f apart a (suc n) = go (f a) refl (options_ascend f apart (a + 1) n)
    where
      go : (o : Option X) → f a ≡ o → AllPairs R (filter_map f (range_with_len (a + 1) n)) → AllPairs R (cons_option o (filter_map f (range_with_len (a + 1) n)))
      go None e more = more
      go (Some x) e more =
          AllPairs-cons R x (filter_map f (range_with_len (a + 1) n))
          (All-of (R x) (filter_map f (range_with_len (a + 1) n)) (λ y c. let r = from_options f (a + 1) n y c in apart a r.0 x y (omega (arith, r.1)) e r.3))
          more

-- ascending lists with the same elements are equal
module _ {X : Type 0} (R : X → X → Type 0) (never : (x y : X) → R x y → R y x → ⊥) where
  same_first : (x y : X) (xs ys : List X) → AllPairs R (x ∷ xs) → AllPairs R (y ∷ ys) → Contains (y ∷ ys) x → Contains (x ∷ xs) y → x ≡ y
  same_first x y xs ys a b c d =
      ⊎_elim
      (λ e. sym e)
      (λ i. ⊎_elim
      (λ e. e)
      (λ j. absurd (never x y (later_is R x xs a y j) (later_is R y ys b x i)))
      (Contains-cases x xs y d))
      (Contains-cases y ys x c)

  in_rest : (x y : X) (xs ys : List X) → AllPairs R (x ∷ xs) → x ≡ y → ((z : X) → Contains (x ∷ xs) z → Contains (y ∷ ys) z) → (z : X) → Contains xs z → Contains ys z
  in_rest x y xs ys a e f z c =
      let after : R x z = later_is R x xs a z c in
      ⊎_elim
      (λ i. absurd (never x x (subst (λ v. R x v) (sym i ∙ sym e) after) (subst (λ v. R x v) (sym i ∙ sym e) after)))
      (λ i. i)
      (Contains-cases y ys z (f z (Contains-later x xs z c)))

  pub one_ascending : (xs ys : List X) → AllPairs R xs → AllPairs R ys → ((z : X) → Contains xs z → Contains ys z) → ((z : X) → Contains ys z → Contains xs z) → xs ≡ ys
  one_ascending [] [] a b f g = refl
  one_ascending [] (y ∷ ys) a b f g = absurd (Contains-none y (g y (Contains-first y ys)))
  one_ascending (x ∷ xs) [] a b f g = absurd (Contains-none x (f x (Contains-first x xs)))
  one_ascending (x ∷ xs) (y ∷ ys) a b f g =
      let e : x ≡ y = same_first x y xs ys a b (f x (Contains-first x xs)) (g y (Contains-first y ys)) in
      let rest : xs ≡ ys = one_ascending xs ys (AllPairs-later R x xs a) (AllPairs-later R y ys b) (in_rest x y xs ys a e f) (in_rest y x ys xs b (sym e) g) in
      ap (λ z. z ∷ xs) e ∙ ap (λ z. y ∷ z) rest
