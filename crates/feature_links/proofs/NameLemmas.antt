-- Elements with a name each, sorted by name and cut.
use Rattle.std.proofs.Common.{◌≡◌, ℕ, zero, suc, ◌+◌, ◌-◌, ◌<◌, ◌≤◌, List, [], ◌∷◌, Bool, true, false, cond, length, take, drop, get_or, refl, ap, sym, ◌∙◌, subst, arith}
use Rattle.std.specs.Prelude.{filter, not, ◌&&◌}
use Rattle.std.specs.List.Sorted.{IsSortedByKey, IsPartitionPoint, IsPartitionedBy, IsStableByKey}
use Rattle.std.specs.Cmp.{IsStrictWeakOrder}
use Rattle.std.specs.Cmp.Lexicographic.{bytes_decides, slice_cmp, texts_ties}
use Rattle.std.specs.Ordering.{is_eq, is_gt, is_lt, nat_cmp, ordering_reverse}
use Rattle.std.specs.declared.cmp.Ordering.{Ordering}
use Rattle.std.specs.declared.cmp.Ordering.TheVariants.{Less, Equal, Greater}
use Rattle.std.specs.Str.{bytes_eq}
use Rattle.std.proofs.lemmas.Cmp.{nat_list_cmp_total}
use Rattle.std.proofs.lemmas.List.Sorted.{sorted_far, ranks_by}
use Rattle.guppy_packages.specs.Rows.{Text}

abbrev compare : Text → Text → Ordering
compare = slice_cmp nat_cmp

-- a text equals a name if and only if neither is less
equal_by : (name text : Text) → bytes_eq name text ≡ is_eq (ordering_reverse (compare text name))
equal_by name text = texts_ties name text ∙ ap is_eq (nat_list_cmp_total.antisymm name text)

tied : (r : Ordering) → not (is_lt (ordering_reverse r)) && not (is_lt r) ≡ is_eq (ordering_reverse r)
tied Less = refl
tied Equal = refl
tied Greater = refl

ties_are_equal : (name text : Text) → not (is_lt (compare name text)) && not (is_lt (compare text name)) ≡ bytes_eq name text
ties_are_equal name text = ap (λ r. not (is_lt r) && not (is_lt (compare text name))) (nat_list_cmp_total.antisymm name text) ∙ tied (compare text name) ∙ sym (equal_by name text)

first_passes : {X : Type 0} (f : X → Bool) (xs : List X) (y : X) (ys : List X) → filter f xs ≡ y ∷ ys → f y ≡ true
first_passes f [] y ys h = cc
first_passes f (x ∷ xs) y ys h = go (f x) refl (first_passes f xs y ys) h
  where
    go : (b : Bool) → f x ≡ b → (filter f xs ≡ y ∷ ys → f y ≡ true) → cond b (x ∷ filter f xs) (filter f xs) ≡ y ∷ ys → f y ≡ true
    go true e later g = cc
    go false e later g = later g

filter-same : {X : Type 0} (f g : X → Bool) → ((x : X) → f x ≡ g x) → (xs : List X) → filter f xs ≡ filter g xs
filter-same f g same [] = refl
filter-same f g same (x ∷ xs) = ap (λ b. cond b (x ∷ filter f xs) (filter f xs)) (same x) ∙ ap (λ zs. cond (g x) (x ∷ zs) zs) (filter-same f g same xs)

turned : (r : Ordering) → is_lt r ≡ false → is_gt (ordering_reverse r) ≡ false
turned Less h = cc
turned Equal h = refl
turned Greater h = refl

not_after : (x y : Text) → is_lt (compare y x) ≡ false → is_gt (compare x y) ≡ false
not_after x y h = ap is_gt (nat_list_cmp_total.antisymm x y) ∙ turned (compare y x) h

chain : (x y z : Text) (r s : Ordering) → compare x y ≡ r → compare y z ≡ s → is_gt r ≡ false → is_lt s ≡ true → is_lt (compare x z) ≡ true
chain x y z Less Less p q h g = ap is_lt (nat_list_cmp_total.trans x y z p q)
chain x y z Less Equal p q h g = cc
chain x y z Less Greater p q h g = cc
chain x y z Equal s p q h g = ap is_lt (nat_list_cmp_total.congr x y z p ∙ q) ∙ g
chain x y z Greater s p q h g = cc

by_less : (r : Ordering) → is_lt r ≡ true → is_eq (ordering_reverse r) ≡ false
by_less Less h = refl
by_less Equal h = cc
by_less Greater h = cc

module _ {X : Type 0} (test : X → Bool) (x : X) (xs rest : List X) where
  passed : test x ≡ false → rest ≡ filter test xs → rest ≡ filter test (x ∷ xs)
  passed h more = more ∙ ap (λ b. cond b (x ∷ filter test xs) (filter test xs)) (sym h)

  kept : test x ≡ true → rest ≡ filter test xs → x ∷ rest ≡ filter test (x ∷ xs)
  kept h more = ap (λ z. x ∷ z) more ∙ ap (λ b. cond b (x ∷ filter test xs) (filter test xs)) (sym h)

-- the elements where a test passes, from one place up to another
pub cut : {X : Type 0} (test : X → Bool) (xs : List X) (first count : ℕ) → first + count ≤ length xs
    → ((k : ℕ) (d : X) → k < first → test (get_or xs k d) ≡ false)
    → ((k : ℕ) (d : X) → first ≤ k → k < first + count → test (get_or xs k d) ≡ true)
    → ((k : ℕ) (d : X) → first + count ≤ k → k < length xs → test (get_or xs k d) ≡ false)
    → take count (drop first xs) ≡ filter test xs
cut test [] zero zero within before inside after = refl
cut test [] zero (suc count) within before inside after = absurd (omega (arith, within))
cut test [] (suc first) count within before inside after = absurd (omega (arith, within))
cut test (x ∷ xs) zero zero within before inside after =
    passed test x xs [] (after 0 x (omega arith) (omega arith))
    (cut test xs zero zero (omega arith) (λ k d m. absurd (omega (arith, m))) (λ k d m o. absurd (omega (arith, o))) (λ k d m o. after (suc k) d (omega arith) (omega (arith, o))))
cut test (x ∷ xs) zero (suc count) within before inside after =
    kept test x xs (take count xs) (inside 0 x (omega arith) (omega arith))
    (cut test xs zero count (omega (arith, within)) (λ k d m. absurd (omega (arith, m))) (λ k d m o. inside (suc k) d (omega arith) (omega (arith, o))) (λ k d m o. after (suc k) d (omega (arith, m)) (omega (arith, o))))
cut test (x ∷ xs) (suc first) count within before inside after =
    passed test x xs (take count (drop first xs)) (before 0 x (omega arith))
    (cut test xs first count (omega (arith, within)) (λ k d m. before (suc k) d (omega (arith, m))) (λ k d m o. inside (suc k) d (omega (arith, m)) (omega (arith, o))) (λ k d m o. after (suc k) d (omega (arith, m)) (omega (arith, o))))

module _ {X : Type 0} (text : X → Text) where
  -- a stable sort by name keeps the elements of a name
  pub sorted_same : (old new : List X) → IsStableByKey text compare old new → (name : Text) → filter (λ y. bytes_eq name (text y)) new ≡ filter (λ y. bytes_eq name (text y)) old
  sorted_same old new stable name = go (filter (λ y. bytes_eq name (text y)) new) (filter (λ y. bytes_eq name (text y)) old) refl refl
    where
      same : (x y : X) → not (is_lt (compare (text x) (text y))) && not (is_lt (compare (text y) (text x))) ≡ bytes_eq (text x) (text y)
      same x y = ties_are_equal (text x) (text y)

      by : (x : X) → bytes_eq name (text x) ≡ true → filter (λ y. bytes_eq name (text y)) new ≡ filter (λ y. bytes_eq name (text y)) old
      by x h =
          let e : text x ≡ name = sym ((bytes_decides name (text x)).0 h) in
          subst (λ z. filter (λ y. bytes_eq z (text y)) new ≡ filter (λ y. bytes_eq z (text y)) old) e (sym (filter-same _ _ (same x) new) ∙ stable x ∙ filter-same _ _ (same x) old)

      go : (xs ys : List X) → filter (λ y. bytes_eq name (text y)) new ≡ xs → filter (λ y. bytes_eq name (text y)) old ≡ ys → filter (λ y. bytes_eq name (text y)) new ≡ filter (λ y. bytes_eq name (text y)) old
      go (x ∷ xs) ys e f = by x (first_passes (λ y. bytes_eq name (text y)) new x xs e)
      go [] (y ∷ ys) e f = by y (first_passes (λ y. bytes_eq name (text y)) old y ys f)
      go [] [] e f = e ∙ sym f

  abbrev pub is_below : Text → X → Bool
  is_below name x = is_lt (compare (text x) name)

  abbrev pub is_before : X → X → Bool
  is_before x y = is_lt (compare (text x) (text y))

  pub ranked : IsStrictWeakOrder is_before
  ranked = ranks_by nat_list_cmp_total text

  -- no name follows a greater one, at any distance
  far : (xs : List X) → IsSortedByKey text compare xs → (i j : ℕ) (d : X) → i ≤ j → j < length xs → is_lt (compare (text (get_or xs j d)) (text (get_or xs i d))) ≡ false
  far xs ordered i j d l m = sorted_far is_before ranked xs ordered i j d l m

  pub parted_below : (xs : List X) → IsSortedByKey text compare xs → (name : Text) → IsPartitionedBy (is_below name) xs
  parted_below xs ordered name i j d l m e = chain (text (get_or xs i d)) (text (get_or xs j d)) name _ _ refl refl (not_after (text (get_or xs i d)) (text (get_or xs j d)) (far xs ordered i j d l m)) e

  -- the elements from the first place of a name up to the first place of another are those of the name
  module _ (name : Text) (xs : List X) (first end : ℕ) (ordered : IsSortedByKey text compare xs) (l : first ≤ end) (within : end ≤ length xs)
      (inside : (k : ℕ) (d : X) → first ≤ k → k < end → bytes_eq name (text (get_or xs k d)) ≡ true)
      (ended : (d : X) → end < length xs → bytes_eq name (text (get_or xs end d)) ≡ false) where
    neither : (r s : Bool) → r ≡ false → s ≡ false → not r && not s ≡ true
    neither false false p q = refl
    neither true s p q = cc
    neither false true p q = cc

    clash : {P : Type 0} → true ≡ false → P
    clash e = cc

    -- no such name follows the end, since the name at the end would be between two equal ones
    passed_by : ((d : X) → end < length xs → is_lt (compare (text (get_or xs end d)) name) ≡ false)
        → (k : ℕ) (d : X) → end ≤ k → k < length xs → (b : Bool) → bytes_eq name (text (get_or xs k d)) ≡ b → bytes_eq name (text (get_or xs k d)) ≡ false
    passed_by above k d m o false e = e
    passed_by above k d m o true e =
        let last : name ≡ text (get_or xs k d) = (bytes_decides name (text (get_or xs k d))).0 e in
        let stop : Text = text (get_or xs end d) in
        let below : is_lt (compare name stop) ≡ false = ap (λ z. is_lt (compare z stop)) last ∙ far xs ordered end k d m o in
        clash (sym (sym (ties_are_equal name stop) ∙ neither (is_lt (compare name stop)) (is_lt (compare stop name)) below (above d (omega (arith, m, o)))) ∙ ended d (omega (arith, m, o)))

    -- the first place is found by halves
    pub halved : IsPartitionPoint (λ y. is_below name y ≡ true) (λ y. is_below name y ≡ false) xs first → take (end - first) (drop first xs) ≡ filter (λ y. bytes_eq name (text y)) xs
    halved low =
        cut (λ y. bytes_eq name (text y)) xs first (end - first) (omega (arith, l, within))
        (λ k d m. equal_by name (text (get_or xs k d)) ∙ by_less _ (low.0 k d (omega arith) m))
        (λ k d m o. inside k d m (omega (arith, l, o)))
        (λ k d m o. passed_by (λ e n. low.1 end e l n) k d (omega (arith, l, m)) o (bytes_eq name (text (get_or xs k d))) refl)
