-- The remaining members, in the direction of the reading.
use Rattle.std.proofs.Common.{◌≡◌, ℕ, ◌+◌, ◌<◌, ◌≤◌, Bool, true, false, cond, List, [], ◌∷◌, length, get_or, drop, refl, ap, sym, ◌∙◌, subst, arith}
use Rattle.std.specs.Prelude.{filter, count_by, map, nat_eq}
use Rattle.std.specs.List.{IsDistinct, range_with_len}
use Rattle.std.proofs.lemmas.List.{length-reverse, drop_more, drop_all, get_or_default}
use Rattle.std.proofs.lemmas.List.Folds.{fold-map}
use Rattle.std.proofs.lemmas.List.FromFn.{fill_by_all}
use Rattle.std.proofs.lemmas.List.Sums.{length-filter}
use Rattle.digraphs.specs.Bits.{has}
use Rattle.digraph_orders.specs.Orders.{ListsEach}
use Rattle.guppy_support.specs.declared.reading.Reading.{Reading}
use Rattle.guppy_support.specs.declared.reading.Reading.TheVariants.{Forward, Backward}
use Rattle.guppy_support.specs.Views.{in_order}
use Rattle.guppy_support.specs.inner.Cursors.{as_read, members_left}
use Rattle.guppy_support.proofs.Distinct.{filter_reverse, distinct_from_apart, distinct_range, range_has, HasBelow, same_count}

pub length_as_read : (r : Reading) (list : List ℕ) → length (as_read r list) ≡ length list
length_as_read Forward list = refl
length_as_read Backward list = length-reverse list

-- The list from place `i` on begins with the node at `i`.
left_at : (r : Reading) (list : List ℕ) (i : ℕ) → i < length list → drop i (as_read r list) ≡ get_or (as_read r list) i 0 ∷ drop (i + 1) (as_read r list)
left_at r list i h = drop_more (as_read r list) i 0 (omega (arith, length_as_read r list))

pub left_yes : (r : Reading) (list : List ℕ) (set : List Bool) (i : ℕ) → i < length list → has set (get_or (as_read r list) i 0) ≡ true
    → members_left r list set i ≡ get_or (as_read r list) i 0 ∷ members_left r list set (i + 1)
left_yes r list set i h e = ap (filter (λ v. has set v)) (left_at r list i h) ∙ rw e refl

pub left_no : (r : Reading) (list : List ℕ) (set : List Bool) (i : ℕ) → i < length list → has set (get_or (as_read r list) i 0) ≡ false
    → members_left r list set i ≡ members_left r list set (i + 1)
left_no r list set i h e = ap (filter (λ v. has set v)) (left_at r list i h) ∙ rw e refl

pub left_end : (r : Reading) (list : List ℕ) (set : List Bool) (i : ℕ) → length list ≤ i → members_left r list set i ≡ []
left_end r list set i h = ap (filter (λ v. has set v)) (drop_all i (as_read r list) (omega (arith, length_as_read r list)))

pub left_start : (r : Reading) (list : List ℕ) (set : List Bool) → members_left r list set 0 ≡ in_order r list set
left_start Forward list set = refl
left_start Backward list set = filter_reverse (λ v. has set v) list

-- ---- how many members there are

count_has : (set : List Bool) → count_by (λ b. b) set ≡ length (filter (λ k. has set k) (range_with_len 0 (length set)))
count_has set =
    let made : set ≡ map (λ k. has set k) (range_with_len 0 (length set)) = fill_by_all (λ k. has set k) set (length set) false refl (λ k h. refl) in
    ap (count_by (λ b. b)) made
    ∙ fold-map (λ a b. a + cond b 1 0) (λ k. has set k) 0 (range_with_len 0 (length set))
    ∙ sym (length-filter (λ k. has set k) (range_with_len 0 (length set)))

pub length_in_order : (r : Reading) (list : List ℕ) (set : List Bool) → length (in_order r list set) ≡ length (filter (λ v. has set v) list)
length_in_order Forward list set = refl
length_in_order Backward list set = length-reverse (filter (λ v. has set v) list)

list_distinct : (list : List ℕ) → ListsEach (length list) list → IsDistinct nat_eq list
list_distinct list each = distinct_from_apart list each.apart

list_has : (list : List ℕ) → ListsEach (length list) list → HasBelow (length list) list
list_has list each = record {
  every = each.every;
  below = λ v h. subst (λ x. x < length list) (get_or_default list h.0 0 v h.1 ∙ h.2) (each.below h.0 h.1);
}

pub left_count : (r : Reading) (list : List ℕ) (set : List Bool) → ListsEach (length list) list → length set ≡ length list
    → count_by (λ b. b) set ≡ length (members_left r list set 0)
left_count r list set each long =
    count_has set
    ∙ ap (λ n. length (filter (λ k. has set k) (range_with_len 0 n))) long
    ∙ sym (same_count (λ v. has set v) (length list) list (range_with_len 0 (length list)) (list_distinct list each) (distinct_range (length list)) (list_has list each) (range_has (length list)))
    ∙ sym (length_in_order r list set)
    ∙ sym (ap length (left_start r list set))
