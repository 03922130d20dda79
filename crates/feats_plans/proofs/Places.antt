-- The place of an id among ids in order.
use Rattle.std.proofs.Common.{◌≡◌, ◌∙◌, sym, ap, refl, ℕ, zero, suc, ◌+◌, ◌<◌, ◌≤◌, List, [], ◌∷◌, map, length, get_or, Bool, true, false, ◌&&◌, ◌||◌, arith, Bor, inl, inr, ◌⊎◌}
use Rattle.std.specs.Prelude.{Option, Some, None, option_map, nat_lt, IsSortedBy}
use Rattle.std.specs.List.{list_all, list_any, AllByRecursion}
use Rattle.std.specs.List.Sorted.{IsStrictlySortedBy, IsNonDecreasingBy, IsPartitionPoint}
use Rattle.std.specs.Option.{option_map_or}
use Rattle.std.specs.Ordering.{is_eq, is_lt, ordering_index, ordering_reverse}
use Rattle.std.specs.declared.cmp.Ordering.{Ordering}
use Rattle.std.specs.declared.cmp.Ordering.TheVariants.{Less, Equal, Greater}
use Rattle.std.specs.Str.{bytes_eq}
use Rattle.std.proofs.lemmas.Cmp.{nat_list_cmp_total}
use Rattle.std.proofs.lemmas.List.{length-map, get_or-map}
use Rattle.std.proofs.lemmas.List.Sorted.{searchable_from_sorted}
use Rattle.std.proofs.lemmas.Map.Keys.{sorted_head, sorted_tail, Less-from_sorted}
use Rattle.std.proofs.lemmas.Map.Text.{is_eq-slice_cmp}
use Rattle.cargo_workspaces.specs.Workspaces.{Text, text_cmp, is_within}
use Rattle.workspace_documents.specs.Views.{text_view}
use Rattle.feats_plans.specs.numbered_workspaces.Numbers.{number_of}

-- how an id compares says whether it is the other
same_from : (o : Ordering) (a id : Text) → text_cmp a id ≡ o → bytes_eq id a ≡ is_eq (ordering_reverse o)
same_from o a id h = sym (is_eq-slice_cmp id a) ∙ ap is_eq (nat_list_cmp_total.antisymm id a ∙ ap ordering_reverse h)

here : (a id : Text) (xs : List Text) → bytes_eq id a ≡ true → number_of (a ∷ xs) id ≡ 0
here a id xs h = rw h refl

later : (a id : Text) (xs : List Text) → bytes_eq id a ≡ false → number_of (a ∷ xs) id ≡ 1 + number_of xs id
later a id xs h = rw h refl

below_at : (a : Text) (ids : List (Bor Text)) (i : ℕ) (d : Bor Text) → AllByRecursion (λ y. text_cmp a y ≡ Less) (map text_view ids) → i < length ids → text_cmp a (get_or ids i d).now ≡ Less
below_at a [] i d h within = absurd (omega arith)
below_at a (x ∷ xs) zero d h within = h.0
below_at a (x ∷ xs) (suc i) d h within = below_at a xs i d h.1 (omega arith)

-- an id that was found is at its place
pub found_number : (ids : List (Bor Text)) (id : Text) (i : ℕ) → IsStrictlySortedBy text_cmp (map text_view ids) → i < length ids → ((d : Bor Text) → text_cmp (get_or ids i d).now id ≡ Equal) → i ≡ number_of (map text_view ids) id
found_number [] id i s within h = absurd (omega arith)
found_number (x ∷ xs) id zero s within h = sym (here x.now id (map text_view xs) (same_from Equal x.now id (h x)))
found_number (x ∷ xs) id (suc i) s within h =
    let inside : i < length xs = omega arith in
    let less : text_cmp x.now (get_or xs i x).now ≡ Less = below_at x.now xs i x (sorted_head text_cmp x.now (map text_view xs) s) inside in
    let same : text_cmp (get_or xs i x).now x.now ≡ text_cmp id x.now = nat_list_cmp_total.congr (get_or xs i x).now id x.now (h x) in
    let above : text_cmp (get_or xs i x).now x.now ≡ Greater = nat_list_cmp_total.antisymm (get_or xs i x).now x.now ∙ ap ordering_reverse less in
    let other : bytes_eq id x.now ≡ false = sym (is_eq-slice_cmp id x.now) ∙ ap is_eq (sym same ∙ above) in
    let rest : i ≡ number_of (map text_view xs) id = found_number xs id i (sorted_tail text_cmp x.now (map text_view xs) s) inside (λ d. h d) in
    let next : number_of (x.now ∷ map text_view xs) id ≡ 1 + number_of (map text_view xs) id = later x.now id (map text_view xs) other in
    omega arith

-- the place of an id that isn't there is the end
none_number : (ids : List (Bor Text)) (id : Text) → ((k : ℕ) (d : Bor Text) → k < length ids → bytes_eq id (get_or ids k d).now ≡ false) → length ids ≡ number_of (map text_view ids) id
none_number [] id h = refl
none_number (x ∷ xs) id h =
    let rest : length xs ≡ number_of (map text_view xs) id = none_number xs id (λ k d within. h (suc k) d (omega arith)) in
    let first : bytes_eq id x.now ≡ false = h 0 x (omega arith) in
    let next : number_of (x.now ∷ map text_view xs) id ≡ 1 + number_of (map text_view xs) id = later x.now id (map text_view xs) first in
    omega arith

rising : (ids : List (Bor Text)) → IsStrictlySortedBy text_cmp (map text_view ids) → IsSortedBy (λ a b. is_lt (text_cmp a.now b.now)) ids
rising ids s = λ k d low high.
    let long : length (map text_view ids) ≡ length ids = length-map ids text_view in
    let less : text_cmp (get_or (map text_view ids) k d.now) (get_or (map text_view ids) (k + 1) d.now) ≡ Less = Less-from_sorted text_cmp (map text_view ids) k (k + 1) d.now s (omega arith) (omega arith) in
    let first : get_or (map text_view ids) k d.now ≡ (get_or ids k d).now = get_or-map text_view ids k d d.now (omega arith) in
    let second : get_or (map text_view ids) (k + 1) d.now ≡ (get_or ids (k + 1) d).now = get_or-map text_view ids (k + 1) d d.now (omega arith) in
    let seen : text_cmp (get_or ids k d).now (get_or ids (k + 1) d).now ≡ Less = sym (ap (λ a. text_cmp a (get_or (map text_view ids) (k + 1) d.now)) first ∙ ap (text_cmp (get_or ids k d).now) second) ∙ less in
    ap is_lt (nat_list_cmp_total.antisymm (get_or ids (k + 1) d).now (get_or ids k d).now ∙ ap ordering_reverse seen)

either : (i k : ℕ) → (k < i) ⊎ (i ≤ k)
either i k = grind arith

pub missing_number : (ids : List (Bor Text)) (id : Text) (i : ℕ) → IsStrictlySortedBy text_cmp (map text_view ids) → (IsNonDecreasingBy (λ y. ordering_index (text_cmp y.now id)) ids → IsPartitionPoint (λ y. text_cmp y.now id ≡ Less) (λ y. text_cmp y.now id ≡ Greater) ids i) → length ids ≡ number_of (map text_view ids) id
missing_number ids id i s h =
    let point = h (searchable_from_sorted nat_list_cmp_total text_view ids id (rising ids s)) in
    none_number ids id (λ k d within. elim (either i k) [
      | inl before ↦ same_from Less (get_or ids k d).now id (point.0 k d (omega arith) before)
      | inr after ↦ same_from Greater (get_or ids k d).now id (point.1 k d after within)
    ])

-- the number of an id that is there is below their count
known_below : (id : Text) (ids : List Text) → list_any (bytes_eq id) ids ≡ true → number_of ids id < length ids
known_below id [] h = cc
known_below id (x ∷ xs) h = known_by (bytes_eq id x) refl (known_below id xs)
  where
    known_by : (b : Bool) → bytes_eq id x ≡ b → (list_any (bytes_eq id) xs ≡ true → number_of xs id < length xs) → number_of (x ∷ xs) id < length (x ∷ xs)
    known_by true e f = let at : number_of (x ∷ xs) id ≡ 0 = here x id xs e in omega arith
    known_by false e f =
        let there : list_any (bytes_eq id) xs ≡ true = sym (ap (λ c. c || list_any (bytes_eq id) xs) e) ∙ h in
        let rest : number_of xs id < length xs = f there in
        let next : number_of (x ∷ xs) id ≡ 1 + number_of xs id = later x id xs e in
        omega arith

pub known_within : (count : ℕ) (id : Text) (ids : List Text) → count ≡ length ids → list_any (bytes_eq id) ids ≡ true → nat_lt (number_of ids id) count ≡ true
known_within count id ids long h =
    let below : number_of ids id < length ids = known_below id ids h in
    grind arith

true_and : (a b : Bool) → (a && b) ≡ true → (a ≡ true) × (b ≡ true)
true_and true b h = (refl, h)
true_and false b h = cc

pub all_within : (count : ℕ) (ids : List Text) (named : List Text) → count ≡ length ids → list_all (λ id. list_any (bytes_eq id) ids) named ≡ true → list_all (λ n. nat_lt n count) (map (number_of ids) named) ≡ true
all_within count ids [] long h = refl
all_within count ids (id ∷ named) long h =
    let parts = true_and (list_any (bytes_eq id) ids) (list_all (λ id. list_any (bytes_eq id) ids) named) h in
    rw (known_within count id ids long parts.0, all_within count ids named long parts.1) refl

pub lead_within : (count : ℕ) (ids : List Text) (lead : Option Text) → count ≡ length ids → option_map_or (λ id. list_any (bytes_eq id) ids) lead true ≡ true → is_within count (option_map (number_of ids) lead) ≡ true
lead_within count ids None long h = refl
lead_within count ids (Some id) long h = known_within count id ids long h
