-- Links in the order of their packages and names.
use Rattle.std.proofs.Common.{◌≡◌, ℕ, zero, suc, ◌+◌, ◌-◌, ◌<◌, ◌≤◌, ◌⊎◌, ⊎_elim, List, [], ◌∷◌, ◌++◌, Bool, true, false, cond, Option, None, Some, length, length-append, take, drop, get_or, refl, ap, sym, ◌∙◌, subst, arith, add-one}
use Rattle.std.specs.Prelude.{All, slice_get, ◌&&◌, ◌==◌, filter}
use Rattle.std.specs.Cmp.Lexicographic.{bytes_decides, slice_cmp}
use Rattle.std.specs.List.{range_with_len}
use Rattle.std.specs.Option.{option_map, option_map_or}
use Rattle.std.specs.Ordering.{is_lt, nat_cmp}
use Rattle.std.specs.Str.{bytes_eq}
use Rattle.std.proofs.lemmas.Bool.Decides.{nat_tests}
use Rattle.std.proofs.lemmas.List.{get_or-take, get_or-drop, get_or_append_left, get_or-append_right, length-take-le, length-drop, take-append-drop, append-nil, take_all}
use Rattle.std.proofs.Math.Seq.{drop-length}
use Rattle.std.proofs.lemmas.List.Elements.{filter-append}
use Rattle.std.proofs.lemmas.List.FromFn.{length-range_with_len, get_or-range_with_len}
use Rattle.std.proofs.lemmas.List.Sorted.{All-permutation}
use Rattle.guppy_packages.specs.Rows.{Text}
use Rattle.guppy_packages.specs.Tables.{AreLinksFrom, AreTables, LinkTable, Tables}
use Rattle.feature_links.specs.inner.LinkOrder.{AreByName, AreOrdered, IsPartSorted, link_name, package_left}
use Rattle.feature_links.specs.NamedLinks.{is_link_under}
use Rattle.feature_links.proofs.NameLemmas.{sorted_same}

both_ways : (a b : Bool) → (a ≡ true → b ≡ true) → (b ≡ true → a ≡ true) → a ≡ b
both_ways true b f g = sym (f refl)
both_ways false true f g = g refl
both_ways false false f g = refl

swapped : (c d : Text) → bytes_eq c d ≡ bytes_eq d c
swapped c d = both_ways (bytes_eq c d) (bytes_eq d c) (λ h. (bytes_decides d c).1 (sym ((bytes_decides c d).0 h))) (λ h. (bytes_decides c d).1 (sym ((bytes_decides d c).0 h)))

below_or : (a b : ℕ) → (a < b) ⊎ (b ≤ a)
below_or a b = grind arith

there : {X : Type 0} (xs : List X) (k : ℕ) → k < length xs → (x : X) × (slice_get xs k ≡ Some x)
there [] k l = absurd (omega (arith, l))
there (x ∷ xs) zero l = (x, refl)
there (x ∷ xs) (suc k) l = there xs k (omega (arith, l))

some_same : (m n : ℕ) → ◌≡◌ {A = Option ℕ} (Some m) (Some n) → m ≡ n
some_same m n e = cc

-- the link that leaves a package
left_link : (t : Tables) (k p : ℕ) → package_left t k ≡ Some p → (l : LinkTable) × (slice_get t.links k ≡ Some l) × (l.from ≡ p)
left_link t k p h = go (slice_get t.links k) refl h
  where
    go : (o : Option LinkTable) → slice_get t.links k ≡ o → option_map (λ l. l.from) o ≡ Some p → (l : LinkTable) × (slice_get t.links k ≡ Some l) × (l.from ≡ p)
    go None e g = cc
    go (Some l) e g = (l, e, some_same l.from p g)

-- exactly the links in a package's range leave it
module _ (t : Tables) (p start end : ℕ) (from : AreLinksFrom t.links p start end) where
  inside_leaves : (k : ℕ) → start ≤ k → k < end → package_left t k ≡ Some p
  inside_leaves k l m =
      let at = there t.links k (omega (arith, m, from.within)) in
      ap (option_map (λ l. l.from)) at.1 ∙ ap (λ z. Some z) ((from.exactly k at.0 at.1).1 (l, m))

  leaves_inside : (k : ℕ) → package_left t k ≡ Some p → (start ≤ k) × (k < end)
  leaves_inside k h = let at = left_link t k p h in (from.exactly k at.0 at.1).0 at.2

-- whether link `k` leaves package `p`
abbrev leaves : Tables → ℕ → ℕ → Bool
leaves t p k = option_map_or (λ l. l.from == p) (slice_get t.links k) false

under_both : (t : Tables) (p : ℕ) (name : Text) (k : ℕ) → is_link_under t p name k ≡ (leaves t p k && bytes_eq name (link_name t k))
under_both t p name k = go (slice_get t.links k)
  where
    go : (o : Option LinkTable) → option_map_or (λ l. (l.from == p) && bytes_eq l.name name) o false ≡ (option_map_or (λ l. l.from == p) o false && bytes_eq name (option_map_or (λ l. l.name) o []))
    go None = refl
    go (Some l) = ap (λ z. (l.from == p) && z) (swapped l.name name)

leaves_there : (t : Tables) (p k : ℕ) → package_left t k ≡ Some p → leaves t p k ≡ true
leaves_there t p k h =
    let at = left_link t k p h in
    ap (λ o. option_map_or (λ l. l.from == p) o false) at.1 ∙ same at.0.from at.2
  where
    same : (m : ℕ) → m ≡ p → (m == p) ≡ true
    same m e = grind (arith, nat_tests, e)

leaves_not : (t : Tables) (p k : ℕ) → (package_left t k ≡ Some p → ⊥) → leaves t p k ≡ false
leaves_not t p k apart = go (slice_get t.links k) apart
  where
    equal : (m : ℕ) → (m == p) ≡ true → m ≡ p
    equal m h = grind (arith, nat_tests)

    by : (m : ℕ) (b : Bool) → (m == p) ≡ b → (◌≡◌ {A = Option ℕ} (Some m) (Some p) → ⊥) → b ≡ false
    by m false e f = refl
    by m true e f = absurd (f (ap (λ z. Some z) (equal m e)))

    go : (o : Option LinkTable) → (option_map (λ l. l.from) o ≡ Some p → ⊥) → option_map_or (λ l. l.from == p) o false ≡ false
    go None f = refl
    go (Some l) f = by l.from (l.from == p) refl f

under_there : (t : Tables) (p : ℕ) (name : Text) (k : ℕ) → package_left t k ≡ Some p → is_link_under t p name k ≡ bytes_eq name (link_name t k)
under_there t p name k h = under_both t p name k ∙ ap (λ b. b && bytes_eq name (link_name t k)) (leaves_there t p k h)

not_under : (t : Tables) (p : ℕ) (name : Text) (k : ℕ) → (package_left t k ≡ Some p → ⊥) → is_link_under t p name k ≡ false
not_under t p name k apart = under_both t p name k ∙ ap (λ b. b && bytes_eq name (link_name t k)) (leaves_not t p k apart)

filter-alike : (f g : ℕ → Bool) (xs : List ℕ) → All (λ x. f x ≡ g x) xs → filter f xs ≡ filter g xs
filter-alike f g [] same = refl
filter-alike f g (x ∷ xs) same = ap (λ b. cond b (x ∷ filter f xs) (filter f xs)) (same 0 x (omega arith)) ∙ ap (λ zs. cond (g x) (x ∷ zs) zs) (filter-alike f g xs (λ k d l. same (suc k) d (omega (arith, l))))

filter-empty : (f : ℕ → Bool) (xs : List ℕ) → All (λ x. f x ≡ false) xs → filter f xs ≡ []
filter-empty f [] none = refl
filter-empty f (x ∷ xs) none = ap (λ b. cond b (x ∷ filter f xs) (filter f xs)) (none 0 x (omega arith)) ∙ filter-empty f xs (λ k d l. none (suc k) d (omega (arith, l)))

filter-both : (f g : ℕ → Bool) (xs : List ℕ) → filter (λ x. f x && g x) xs ≡ filter f (filter g xs)
filter-both f g [] = refl
filter-both f g (x ∷ xs) = go (f x) (g x) refl (filter-both f g xs)
  where
    go : (b c : Bool) → f x ≡ b → filter (λ x. f x && g x) xs ≡ filter f (filter g xs) → cond (b && c) (x ∷ filter (λ x. f x && g x) xs) (filter (λ x. f x && g x) xs) ≡ filter f (cond c (x ∷ filter g xs) (filter g xs))
    go true true e more = ap (λ z. x ∷ z) more ∙ ap (λ b. cond b (x ∷ filter f (filter g xs)) (filter f (filter g xs))) (sym e)
    go false true e more = more ∙ ap (λ b. cond b (x ∷ filter f (filter g xs)) (filter f (filter g xs))) (sym e)
    go true false e more = more
    go false false e more = more

range_last : (q n : ℕ) → range_with_len q (suc n) ≡ range_with_len q n ++ (q + n) ∷ []
range_last q zero = ap (λ z. z ∷ []) (omega arith)
range_last q (suc n) = ap (λ z. q ∷ z) (range_last (q + 1) n ∙ ap (λ z. range_with_len (q + 1) n ++ z ∷ []) (omega arith))

-- one more number in ascending order
pub range_more : (n : ℕ) → range_with_len 0 (n + 1) ≡ range_with_len 0 n ++ n ∷ []
range_more n = ap (range_with_len 0) (add-one n) ∙ range_last 0 n ∙ ap (λ z. range_with_len 0 n ++ z ∷ []) (omega arith)

-- a list written over one of its length
pub written_over : (xs ys : List ℕ) (n : ℕ) → length xs ≡ length ys → n ≡ length ys → take n (xs ++ drop (length xs) ys) ≡ xs
written_over xs ys n same l =
    ap (λ z. take n (xs ++ drop z ys)) same
    ∙ ap (λ z. take n (xs ++ z)) (drop-length ys)
    ∙ ap (take n) (append-nil xs)
    ∙ take_all n xs (omega (arith, same, l))

-- the links in ascending order: no package's links are ordered by name
pub unsorted : (t : Tables) (links : List ℕ) → links ≡ range_with_len 0 (length t.links) → AreByName t 0 links
unsorted t links is = record {
  count = count;
  packages = λ k d l. ap (package_left t) (ap (λ z. get_or z k d) is ∙ get_or-range_with_len 0 (length t.links) k d (omega (arith, l, count)) ∙ omega arith);
  names = λ k p d l g h. absurd (omega (arith, l));
}
  where
    count : length links ≡ length t.links
    count = ap length is ∙ length-range_with_len 0 (length t.links)

module _ (t : Tables) (start end : ℕ) (old new : List ℕ) (s : IsPartSorted t start end old new) where
  pub long : length new ≡ length old
  long =
      ap length s.after
      ∙ length-append s.front (s.sorted ++ s.back)
      ∙ ap (λ z. length s.front + z) (length-append s.sorted s.back ∙ ap (λ z. z + length s.back) s.count ∙ sym (length-append s.part s.back))
      ∙ sym (length-append s.front (s.part ++ s.back))
      ∙ ap length (sym s.before)

  -- the links in the part, and those outside it
  old_inside : (k : ℕ) (d : ℕ) → start ≤ k → k < end → get_or old k d ≡ get_or s.part (k - start) d
  old_inside k d l m =
      ap (λ z. get_or z k d) s.before
      ∙ get_or-append_right s.front (s.part ++ s.back) start k d s.start_is l
      ∙ get_or_append_left s.part s.back d (k - start) (omega (arith, l, m, s.end_is))

  new_inside : (k : ℕ) (d : ℕ) → start ≤ k → k < end → get_or new k d ≡ get_or s.sorted (k - start) d
  new_inside k d l m =
      ap (λ z. get_or z k d) s.after
      ∙ get_or-append_right s.front (s.sorted ++ s.back) start k d s.start_is l
      ∙ get_or_append_left s.sorted s.back d (k - start) (omega (arith, l, m, s.end_is, s.count))

  outside : (k : ℕ) (d : ℕ) → ((start ≤ k) × (k < end) → ⊥) → get_or new k d ≡ get_or old k d
  outside k d apart = ap (λ z. get_or z k d) s.after ∙ ⊎_elim front_same back_same (below_or k start) ∙ ap (λ z. get_or z k d) (sym s.before)
    where
      front_same : k < start → get_or (s.front ++ (s.sorted ++ s.back)) k d ≡ get_or (s.front ++ (s.part ++ s.back)) k d
      front_same l =
          get_or_append_left s.front (s.sorted ++ s.back) d k (omega (arith, l, s.start_is))
          ∙ sym (get_or_append_left s.front (s.part ++ s.back) d k (omega (arith, l, s.start_is)))

      back_same : start ≤ k → get_or (s.front ++ (s.sorted ++ s.back)) k d ≡ get_or (s.front ++ (s.part ++ s.back)) k d
      back_same l =
          let m : end ≤ k = ⊎_elim (λ m. absurd (apart (l, m))) (λ m. m) (below_or k end) in
          get_or-append_right s.front (s.sorted ++ s.back) start k d s.start_is l
          ∙ get_or-append_right s.sorted s.back (length s.part) (k - start) d s.count (omega (arith, m, l, s.end_is))
          ∙ sym (get_or-append_right s.part s.back (length s.part) (k - start) d refl (omega (arith, m, l, s.end_is)))
          ∙ sym (get_or-append_right s.front (s.part ++ s.back) start k d s.start_is l)

  -- each property that all links of the part have, all sorted links have
  part_holds : (P : ℕ → Type 0) → ((k : ℕ) (d : ℕ) → start ≤ k → k < end → P (get_or old k d)) → All P s.part
  part_holds P holds i d l =
      let place : ℕ = start + i in
      let within : place < end = omega (arith, l, s.end_is) in
      let back : place - start ≡ i = omega arith in
      subst P (old_inside place d (omega arith) within ∙ ap (λ z. get_or s.part z d) back) (holds place d (omega arith) within)

  sorted_holds : (P : ℕ → Type 0) → ((k : ℕ) (d : ℕ) → start ≤ k → k < end → P (get_or old k d)) → All P s.sorted
  sorted_holds P holds = All-permutation P s.part s.sorted s.permutation (part_holds P holds)

  still : (P : ℕ → Type 0) → ((k : ℕ) (d : ℕ) → start ≤ k → k < end → P (get_or old k d)) → (k : ℕ) (d : ℕ) → start ≤ k → k < end → P (get_or new k d)
  still P holds k d l m = subst P (sym (new_inside k d l m)) (sorted_holds P holds (k - start) d (omega (arith, l, m, s.end_is, s.count)))

  -- a sort of a part keeps the links under each name
  pub same_under : (p : ℕ) (name : Text) → filter (is_link_under t p name) new ≡ filter (is_link_under t p name) old
  same_under p name =
      ap (filter test) s.after
      ∙ filter-append test s.front (s.sorted ++ s.back)
      ∙ ap (λ z. filter test s.front ++ z) (filter-append test s.sorted s.back ∙ ap (λ z. z ++ filter test s.back) part ∙ sym (filter-append test s.part s.back))
      ∙ sym (filter-append test s.front (s.part ++ s.back))
      ∙ ap (filter test) (sym s.before)
    where
      test : ℕ → Bool
      test = is_link_under t p name

      named : ℕ → Bool
      named = λ l. bytes_eq name (link_name t l)

      split : (xs : List ℕ) → filter test xs ≡ filter (leaves t p) (filter named xs)
      split xs = filter-alike test (λ l. leaves t p l && named l) xs (λ k d l. under_both t p name (get_or xs k d)) ∙ filter-both (leaves t p) named xs

      part : filter test s.sorted ≡ filter test s.part
      part = split s.sorted ∙ ap (filter (leaves t p)) (sorted_same (link_name t) s.part s.sorted s.stable name) ∙ sym (split s.part)

  -- the links of one more package are in order
  pub next_sorted : (n : ℕ) → AreLinksFrom t.links n start end → AreByName t n old → AreByName t (n + 1) new
  next_sorted n from before = record {
    count = long ∙ before.count;
    packages = λ k d l. in_or_out k (λ m. still (λ x. package_left t x ≡ Some n) leave k d m.0 m.1 ∙ sym (inside_leaves t n start end from k m.0 m.1))
        (λ apart. ap (package_left t) (outside k d apart) ∙ before.packages k d (omega (arith, l, long)));
    names = λ k p d l g h. ⊎_elim (λ m. earlier k p d m g h) (λ m. newest k p d (omega (arith, l, m)) g h) (below_or p n);
  }
    where
      within : (k : ℕ) → k < end → k < length old
      within k l = omega (arith, l, from.within, before.count)

      in_or_out : {P : Type 0} (k : ℕ) → ((start ≤ k) × (k < end) → P) → (((start ≤ k) × (k < end) → ⊥) → P) → P
      in_or_out k inner outer = ⊎_elim (λ l. outer (λ m. omega (arith, l, m.0))) (λ l. ⊎_elim (λ m. inner (l, m)) (λ m. outer (λ i. omega (arith, m, i.1))) (below_or k end)) (below_or k start)

      leave : (k : ℕ) (d : ℕ) → start ≤ k → k < end → package_left t (get_or old k d) ≡ Some n
      leave k d l m = before.packages k d (within k m) ∙ inside_leaves t n start end from k l m

      other : (k p : ℕ) → p < n → package_left t k ≡ Some p → (start ≤ k) × (k < end) → ⊥
      other k p l g m = let same : p ≡ n = some_same p n (sym g ∙ inside_leaves t n start end from k m.0 m.1) in omega (arith, l, same)

      earlier : (k p : ℕ) (d : ℕ) → p < n → package_left t k ≡ Some p → package_left t (k + 1) ≡ Some p → is_lt (slice_cmp nat_cmp (link_name t (get_or new (k + 1) d)) (link_name t (get_or new k d))) ≡ false
      earlier k p d l g h =
          ap (λ z. is_lt (slice_cmp nat_cmp (link_name t z) (link_name t (get_or new k d)))) (outside (k + 1) d (other (k + 1) p l h))
          ∙ ap (λ z. is_lt (slice_cmp nat_cmp (link_name t (get_or old (k + 1) d)) (link_name t z))) (outside k d (other k p l g))
          ∙ before.names k p d l g h

      newest : (k p : ℕ) (d : ℕ) → p ≡ n → package_left t k ≡ Some p → package_left t (k + 1) ≡ Some p → is_lt (slice_cmp nat_cmp (link_name t (get_or new (k + 1) d)) (link_name t (get_or new k d))) ≡ false
      newest k p d e g h =
          let low = leaves_inside t n start end from k (g ∙ ap (λ z. Some z) e) in
          let high = leaves_inside t n start end from (k + 1) (h ∙ ap (λ z. Some z) e) in
          let next : k + 1 - start ≡ k - start + 1 = omega (arith, low.0) in
          ap (λ z. is_lt (slice_cmp nat_cmp (link_name t z) (link_name t (get_or new k d)))) (new_inside (k + 1) d high.0 high.1 ∙ ap (λ z. get_or s.sorted z d) next)
          ∙ ap (λ z. is_lt (slice_cmp nat_cmp (link_name t (get_or s.sorted (k - start + 1) d)) (link_name t z))) (new_inside k d low.0 low.1)
          ∙ s.ordered (k - start) d (omega arith) (omega (arith, low.0, high.1, s.end_is, s.count))

-- a package's links
module _ (t : Tables) (n : ℕ) (links : List ℕ) (order : AreByName t n links) (p start end : ℕ) (l : p < n) (from : AreLinksFrom t.links p start end) where
  abbrev part : List ℕ
  part = take (end - start) (drop start links)

  count : length part ≡ end - start
  count = length-take-le (end - start) (drop start links) (omega (arith, length-drop start links, order.count, from.within, from.ascend))

  at : (k : ℕ) (d : ℕ) → k < end - start → get_or part k d ≡ get_or links (start + k) d
  at k d m = get_or-take (end - start) (drop start links) k d m ∙ get_or-drop start links k d

  -- they are ordered by name
  pub part_ordered : AreOrdered t (take (end - start) (drop start links))
  part_ordered k d m o =
      let next : k + 1 < end - start = omega (arith, o, count) in
      let place : start + (k + 1) ≡ start + k + 1 = omega arith in
      ap (λ z. is_lt (slice_cmp nat_cmp (link_name t z) (link_name t (get_or part k d)))) (at (k + 1) d next ∙ ap (λ z. get_or links z d) place)
      ∙ ap (λ z. is_lt (slice_cmp nat_cmp (link_name t (get_or links (start + k + 1) d)) (link_name t z))) (at k d (omega (arith, next)))
      ∙ order.names (start + k) p d l (inside_leaves t p start end from (start + k) (omega arith) (omega (arith, next))) (inside_leaves t p start end from (start + k + 1) (omega arith) (omega (arith, next)))

  -- those of a name are those under it
  pub part_under : (name : Text) → filter (λ l. bytes_eq name (link_name t l)) (take (end - start) (drop start links)) ≡ filter (is_link_under t p name) links
  part_under name =
      filter-alike named test part inside
      ∙ sym (ap (λ z. filter test part ++ z) (filter-empty test (drop (end - start) rest) after) ∙ append-nil (filter test part))
      ∙ sym (filter-append test part (drop (end - start) rest))
      ∙ ap (filter test) (take-append-drop (end - start) rest)
      ∙ sym (ap (λ z. z ++ filter test rest) (filter-empty test (take start links) before))
      ∙ sym (filter-append test (take start links) rest)
      ∙ ap (filter test) (take-append-drop start links)
    where
      test : ℕ → Bool
      test = is_link_under t p name

      named : ℕ → Bool
      named = λ l. bytes_eq name (link_name t l)

      rest : List ℕ
      rest = drop start links

      elsewhere : (k : ℕ) (d : ℕ) → k < length links → ((start ≤ k) × (k < end) → ⊥) → test (get_or links k d) ≡ false
      elsewhere k d m apart = not_under t p name (get_or links k d) (λ h. apart (leaves_inside t p start end from k (sym (order.packages k d m) ∙ h)))

      inside : All (λ x. named x ≡ test x) part
      inside k d m =
          let within : k < end - start = omega (arith, m, count) in
          let place : start + k < length links = omega (arith, within, order.count, from.within) in
          subst (λ x. named x ≡ test x) (sym (at k d within))
          (sym (under_there t p name (get_or links (start + k) d) (order.packages (start + k) d place ∙ inside_leaves t p start end from (start + k) (omega arith) (omega (arith, within)))))

      before : All (λ x. test x ≡ false) (take start links)
      before k d m =
          let low : k < start = omega (arith, m, length-take-le start links (omega (arith, order.count, from.within, from.ascend))) in
          ap test (get_or-take start links k d low) ∙ elsewhere k d (omega (arith, low, order.count, from.within, from.ascend)) (λ i. omega (arith, low, i.0))

      after : All (λ x. test x ≡ false) (drop (end - start) rest)
      after k d m =
          let place : start + (end - start + k) ≡ end + k = omega (arith, from.ascend) in
          ap test (get_or-drop (end - start) rest k d ∙ get_or-drop start links (end - start + k) d ∙ ap (λ z. get_or links z d) place)
          ∙ elsewhere (end + k) d (omega (arith, m, length-drop (end - start) rest, length-drop start links, from.ascend)) (λ i. omega (arith, i.1))

-- no links are under a package that doesn't exist
pub none_under : (t : Tables) (tables : AreTables t) (p : ℕ) (name : Text) (links : List ℕ) → length t.packages ≤ p → [] ≡ filter (is_link_under t p name) links
none_under t tables p name links l =
    sym (filter-empty (is_link_under t p name) links (λ k d m. not_under t p name (get_or links k d) (λ h. let at = left_link t (get_or links k d) p h in omega (arith, l, at.2, (tables.ends (get_or links k d) at.0 at.1).0))))
