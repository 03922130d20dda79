-- Maps that count texts, and the list of their entries.
use Rattle.std.proofs.Common.{◌≡◌, ◌∙◌, sym, ap, refl, ℕ, zero, suc, ◌+◌, List, [], ◌∷◌, ◌++◌, map, length, Bool, true, false, cond, nat_lt, Some, None, filter, arith}
use Rattle.std.specs.Prelude.{◌||◌}
use Rattle.std.specs.Borrow.{Bor}
use Rattle.std.specs.BTreeMap.{BTreeMap, IsOrdered, get_by, is_at}
use Rattle.std.specs.List.{AllByRecursion, list_any}
use Rattle.std.specs.List.Sorted.{IsStrictlySortedBy}
use Rattle.std.specs.Map.{keys_of, lookup, update}
use Rattle.std.specs.Option.{is_some, unwrap_or}
use Rattle.std.specs.Ordering.{is_eq, ordering_reverse}
use Rattle.std.specs.Str.{bytes_eq}
use Rattle.std.specs.declared.cmp.Ordering.TheVariants.{Less, Greater}
use Rattle.std.proofs.lemmas.Cmp.{nat_list_cmp_total, tied_itself}
use Rattle.std.proofs.lemmas.List.{length-append}
use Rattle.std.proofs.lemmas.List.Elements.{filter-append}
use Rattle.std.proofs.lemmas.Map.Text.{is_eq-slice_cmp}
use Rattle.std.proofs.lemmas.Slice.Eq.{bytes_eq-Decides}
use Rattle.cargo_workspaces.specs.Workspaces.{Text, text_cmp}
use Rattle.feats_list.specs.platforms.Lists.{CountedText, count_of, counted_of}
use Rattle.feats_list.specs.platforms.inner.Counts.{AreCounted, HasCounts, key_cmp, pair_text, some_count}

positive : (n : ℕ) → nat_lt 0 (suc n) ≡ true
positive n = grind arith

-- some element passes exactly if their number isn't 0
any_counts : {X : Type 0} (p : X → Bool) (xs : List X) → list_any p xs ≡ nat_lt 0 (length (filter p xs))
any_counts p [] = refl
any_counts p (x ∷ xs) = go (p x) (any_counts p xs)
  where
    go : (b : Bool) → list_any p xs ≡ nat_lt 0 (length (filter p xs)) → (b || list_any p xs) ≡ nat_lt 0 (length (cond b (x ∷ filter p xs) (filter p xs)))
    go true e = sym (positive (length (filter p xs)))
    go false e = e

count_one : (b : Bool) (x : Text) → length (cond b (x ∷ []) []) ≡ cond b 1 0
count_one true x = refl
count_one false x = refl

count_more : (texts : List Text) (x q : Text) → count_of (texts ++ x ∷ []) q ≡ count_of texts q + cond (bytes_eq q x) 1 0
count_more texts x q =
    ap length (filter-append (bytes_eq q) texts (x ∷ []))
    ∙ length-append (filter (bytes_eq q) texts) (cond (bytes_eq q x) (x ∷ []) [])
    ∙ ap (λ n. length (filter (bytes_eq q) texts) + n) (count_one (bytes_eq q x) x)

both : (a b : Bool) → (a ≡ true → b ≡ true) → (b ≡ true → a ≡ true) → a ≡ b
both true b f g = sym (f refl)
both false true f g = g refl
both false false f g = refl

bytes_eq-flip : (a b : Text) → bytes_eq a b ≡ bytes_eq b a
bytes_eq-flip a b = both (bytes_eq a b) (bytes_eq b a) (λ h. (bytes_eq-Decides b a).1 (sym ((bytes_eq-Decides a b).0 h))) (λ h. (bytes_eq-Decides a b).1 (sym ((bytes_eq-Decides b a).0 h)))

-- the number that is there, or 0
count_back : (n : ℕ) → unwrap_or (some_count n) 0 ≡ n
count_back zero = refl
count_back (suc n) = ap (λ b. unwrap_or (cond b (Some (suc n)) None) 0) (positive n)

some_more : (n : ℕ) → some_count (n + 1) ≡ Some (n + 1)
some_more n = ap (λ b. cond b (Some (n + 1)) None) (let h : nat_lt 0 (n + 1) ≡ true = grind arith in h)

same_count : (n : ℕ) → n + 0 ≡ n
same_count n = omega arith

-- one more text is counted
pub counts_more : (old new : BTreeMap (Bor Text) ℕ) (texts : List Text) (x : Text) (more : ℕ)
    → ((q : Text) → get_by (λ k. text_cmp q k.now) new ≡ update bytes_eq (λ t. get_by (λ k. text_cmp t k.now) old) x (Some more) q)
    → more ≡ unwrap_or (get_by (λ k. text_cmp x k.now) old) 0 + 1 → HasCounts old texts → HasCounts new (texts ++ x ∷ [])
counts_more old new texts x more sets is has q = sets q ∙ go (bytes_eq x q) refl ∙ ap some_count (sym (count_more texts x q))
  where
    value : more ≡ count_of texts x + 1
    value = is ∙ ap (λ o. unwrap_or o 0 + 1) (has x) ∙ ap (λ n. n + 1) (count_back (count_of texts x))

    go : (b : Bool) → bytes_eq x q ≡ b → cond b (Some more) (get_by (λ k. text_cmp q k.now) old) ≡ some_count (count_of texts q + cond (bytes_eq q x) 1 0)
    go true e =
        let there : bytes_eq q x ≡ true = bytes_eq-flip q x ∙ e in
        let is_q : x ≡ q = (bytes_eq-Decides x q).0 e in
        ap Some (value ∙ ap (λ t. count_of texts t + 1) is_q) ∙ sym (some_more (count_of texts q)) ∙ ap (λ b. some_count (count_of texts q + cond b 1 0)) (sym there)
    go false e =
        let none : bytes_eq q x ≡ false = bytes_eq-flip q x ∙ e in
        has q ∙ ap some_count (sym (same_count (count_of texts q))) ∙ ap (λ b. some_count (count_of texts q + cond b 1 0)) (sym none)

-- the texts of a map's keys ascend
ascend_all : (t : Bor Text) (es : List (Bor Text × ℕ)) → AllByRecursion (λ k. key_cmp t k ≡ Less) (keys_of es) → AllByRecursion (λ y. text_cmp t.now y ≡ Less) (map (λ e. e.0.now) es)
ascend_all t [] all = tt
ascend_all t (e ∷ es) (first, rest) = (first, ascend_all t es rest)

ascend : (es : List (Bor Text × ℕ)) → IsStrictlySortedBy key_cmp (keys_of es) → IsStrictlySortedBy text_cmp (map (λ e. e.0.now) es)
unfolding IsStrictlySortedBy
ascend [] sorted = tt
ascend (e ∷ es) (first, rest) = (ascend_all e.0 es first, ascend es rest)

-- a text is among them exactly if a look-up finds it
found_any : (q : Text) (es : List (Bor Text × ℕ)) → list_any (bytes_eq q) (map (λ e. e.0.now) es) ≡ is_some (lookup (is_at (λ k. text_cmp q k.now)) es)
found_any q [] = refl
found_any q (e ∷ es) = go (bytes_eq q e.0.now) (is_eq (text_cmp q e.0.now)) (sym (is_eq-slice_cmp q e.0.now)) (found_any q es)
  where
    go : (a b : Bool) → a ≡ b → list_any (bytes_eq q) (map (λ e. e.0.now) es) ≡ is_some (lookup (is_at (λ k. text_cmp q k.now)) es)
        → (a || list_any (bytes_eq q) (map (λ e. e.0.now) es)) ≡ is_some (cond b (Some e.1) (lookup (is_at (λ k. text_cmp q k.now)) es))
    go true true h more = refl
    go true false h more = absurd (let bad : true ≡ false = h in cc)
    go false true h more = absurd (let bad : false ≡ true = h in cc)
    go false false h more = more

some_is : (n : ℕ) → is_some (some_count n) ≡ nat_lt 0 n
some_is n = go (nat_lt 0 n)
  where
    go : (b : Bool) → is_some (cond b (Some n) None) ≡ b
    go true = refl
    go false = refl

-- a look-up of a later key passes over the first
later : (e d : Bor Text × ℕ) (es : List (Bor Text × ℕ)) → key_cmp e.0 d.0 ≡ Less → lookup (is_at (key_cmp d.0)) es ≡ Some d.1 → lookup (is_at (key_cmp d.0)) (e ∷ es) ≡ Some d.1
later e d es less found =
    let greater : text_cmp d.0.now e.0.now ≡ Greater = nat_list_cmp_total.antisymm d.0.now e.0.now ∙ ap ordering_reverse less in
    ap (λ o. cond (is_eq o) (Some e.1) (lookup (is_at (key_cmp d.0)) es)) greater ∙ found

all_later : (e : Bor Text × ℕ) (all es : List (Bor Text × ℕ)) → AllByRecursion (λ k. key_cmp e.0 k ≡ Less) (keys_of es) → AllByRecursion (λ d. lookup (is_at (key_cmp d.0)) all ≡ Some d.1) es
    → AllByRecursion (λ d. lookup (is_at (key_cmp d.0)) (e ∷ all) ≡ Some d.1) es
all_later e all [] below found = tt
all_later e all (d ∷ es) (first, rest) (one, more) = (later e d all first one, all_later e all es rest more)

-- a look-up of each key finds its entry
all_found : (es : List (Bor Text × ℕ)) → IsStrictlySortedBy key_cmp (keys_of es) → AllByRecursion (λ d. lookup (is_at (key_cmp d.0)) es ≡ Some d.1) es
unfolding IsStrictlySortedBy
all_found [] sorted = tt
all_found (e ∷ es) (first, rest) =
    (ap (λ o. cond (is_eq o) (Some e.1) (lookup (is_at (key_cmp e.0)) es)) (tied_itself nat_list_cmp_total e.0.now), all_later e es es first (all_found es rest))

count_is : (n m : ℕ) → some_count n ≡ Some m → m ≡ n
count_is n m h = go (nat_lt 0 n) h
  where
    go : (b : Bool) → cond b (Some n) None ≡ Some m → m ≡ n
    go true e = cc
    go false e = absurd (cc)

-- each entry has the count of its text
pairs_counted : (m : BTreeMap (Bor Text) ℕ) (texts : List Text) (es : List (Bor Text × ℕ)) → HasCounts m texts → AllByRecursion (λ d. lookup (is_at (key_cmp d.0)) m.entries ≡ Some d.1) es
    → map pair_text es ≡ map (counted_of texts) (map (λ e. e.0.now) es)
pairs_counted m texts [] has found = refl
pairs_counted m texts (e ∷ es) has (one, more) =
    let is : e.1 ≡ count_of texts e.0.now = count_is (count_of texts e.0.now) e.1 (sym (has e.0.now) ∙ one) in
    ap (λ n. record { spec = e.0.now; count = n } ∷ map pair_text es) is
    ∙ ap (λ rest. counted_of texts e.0.now ∷ rest) (pairs_counted m texts es has more)

pub are_counted : (m : BTreeMap (Bor Text) ℕ) (texts : List Text) (list : List CountedText) → HasCounts m texts → IsOrdered key_cmp m → list ≡ map pair_text m.entries → AreCounted texts list
are_counted m texts list has ordered is = record {
  once = map (λ e. e.0.now) m.entries;
  are_once = record {
    ascending = ascend m.entries ordered;
    same = λ q. found_any q m.entries ∙ ap is_some (has q) ∙ some_is (count_of texts q) ∙ sym (any_counts (bytes_eq q) texts);
  };
  are_counted = is ∙ pairs_counted m texts m.entries has (all_found m.entries ordered);
}
