-- Members are listed once, and so are the edges between them.
use Rattle.std.proofs.Common.{◌≡◌, ℕ, suc, ◌+◌, ◌-◌, ◌<◌, inl, inr, Bool, false, List, [], ◌∷◌, ◌++◌, length, get_or, refl, ap, sym, ◌∙◌, subst, arith, Some}
use Rattle.std.specs.Prelude.{Contains, reverse, flat_map, nat_eq, IsTrue, slice_get, ◌==◌}
use Rattle.std.specs.List.{IsDistinct}
use Rattle.std.proofs.lemmas.Bool.{cases_Bool, cases_eq, eqb-false, ne_eqb}
use Rattle.std.proofs.lemmas.List.{get_or-reverse, length-reverse, get_or_default, length-map}
use Rattle.std.proofs.lemmas.List.Elements.{Contains-append_left, Contains-append_right, Contains-append_cases, Contains-get_or, All-from_get_or, recursion_from_All, All-contains, All-from_recursion}
use Rattle.std.proofs.lemmas.Map.Keys.{apart_from_distinct, IsDistinct-cons, IsDistinct-head, IsDistinct-tail}
use Rattle.std.proofs.lemmas.Map.Made.{Contains-tail}
use Rattle.digraphs.specs.declared.digraph.Edge.{Edge}
use Rattle.digraphs.specs.Graph.{sources, targets, source_of, target_of}
use Rattle.digraphs.specs.Bits.{has}
use Rattle.digraphs.specs.Rows.{places, places_from}
use Rattle.digraph_orders.specs.Sequences.{Sequence, IsSequence}
use Rattle.guppy_support.specs.declared.reading.Reading.{Reading}
use Rattle.guppy_support.specs.declared.reading.Reading.TheVariants.{Forward, Backward}
use Rattle.guppy_support.specs.Views.{in_order, links_of, links_in_order, starting, start_of, end_of}
use Rattle.guppy_support.specs.Laws.{ListsOnce, IsLink, MembersComeOnce, LinksComeOnce}
use Rattle.guppy_support.specs.inner.Cursors.{as_read}
use Rattle.guppy_support.proofs.Distinct.{distinct_from_apart, distinct_filter, to_filter, from_filter}
use Rattle.guppy_support.proofs.LinkSteps.{has_within}
use Rattle.guppy_support.proofs.Places.{get_some, within_some, place_from, place_listed, starts_at}
use Rattle.guppy_support.proofs.Readings.{left_start}

-- ---- lists in general

-- An element read at a place is in the list.
at_place : (xs : List ℕ) (i x : ℕ) → slice_get xs i ≡ Some x → Contains xs x
at_place xs i x e =
    let h = within_some xs i x e in
    let shown = sym (get_some xs i h) ∙ e in
    let is : get_or xs i 0 ≡ x = cc in
    (i, h, get_or_default xs i x 0 h ∙ is)

pub place_of : (xs : List ℕ) (x : ℕ) → Contains xs x → (i : ℕ) × (slice_get xs i ≡ Some x)
place_of xs x h = (h.0, get_some xs h.0 h.1 ∙ ap Some (get_or_default xs h.0 0 x h.1 ∙ h.2))

distinct_append : (xs ys : List ℕ) → IsDistinct nat_eq xs → IsDistinct nat_eq ys → ((q : ℕ) → Contains xs q → ¬ Contains ys q) → IsDistinct nat_eq (xs ++ ys)
distinct_append [] ys dx dy apart = dy
distinct_append (x ∷ xs) ys dx dy apart =
    let further : (q : ℕ) → Contains xs q → Contains (x ∷ xs) q = λ q h. Contains-append_right (x ∷ []) xs q h in
    IsDistinct-cons nat_eq x (xs ++ ys)
    (recursion_from_All (λ y. nat_eq x y ≡ false) (xs ++ ys)
    (All-from_get_or (λ y. nat_eq x y ≡ false) (xs ++ ys) 0 (λ i h.
    ne_eqb x (get_or (xs ++ ys) i 0) (λ e.
    elim (Contains-append_cases xs ys x (subst (Contains (xs ++ ys)) (sym e) (Contains-get_or (xs ++ ys) i 0 h))) [
      | inl old ↦ eqb-false x x (All-contains (λ y. nat_eq x y ≡ false) xs x (All-from_recursion (λ y. nat_eq x y ≡ false) xs (IsDistinct-head nat_eq x xs dx)) old) refl
      | inr new ↦ apart x (0, omega arith, refl) new
    ]))))
    (distinct_append xs ys (IsDistinct-tail nat_eq x xs dx) dy (λ q h. apart q (further q h)))

in_flat_map : (f : ℕ → List ℕ) (vs : List ℕ) (v k : ℕ) → Contains vs v → Contains (f v) k → Contains (flat_map f vs) k
in_flat_map f [] v k h has = absurd (omega (arith, h.1))
in_flat_map f (x ∷ vs) v k h has =
    elim (cases_eq x v) [
      | inl e ↦ Contains-append_left (f x) (flat_map f vs) k (subst (λ w. Contains (f w) k) (sym e) has)
      | inr ne ↦ Contains-append_right (f x) (flat_map f vs) k (in_flat_map f vs v k (Contains-tail x vs v ne h) has)
    ]

-- The source of an element of a flat map.
pub record IsFrom (f : ℕ → List ℕ) (vs : List ℕ) (k : ℕ) : Type 0 where
  pub node : ℕ
  pub listed : Contains vs node
  pub has : Contains (f node) k

pub from_flat_map : (f : ℕ → List ℕ) (vs : List ℕ) (k : ℕ) → Contains (flat_map f vs) k → IsFrom f vs k
from_flat_map f [] k h = absurd (omega (arith, h.1))
from_flat_map f (x ∷ vs) k h =
    elim (Contains-append_cases (f x) (flat_map f vs) k h) [
      | inl here ↦ record { node = x; listed = (0, omega arith, refl); has = here }
      | inr there ↦ (let rest = from_flat_map f vs k there in record { node = rest.node; listed = Contains-append_right (x ∷ []) vs rest.node rest.listed; has = rest.has })
    ]

-- If each element determines its list, the flat map of distinct lists is distinct.
distinct_flat_map : (f : ℕ → List ℕ) (home : ℕ → ℕ) → ((v k : ℕ) → Contains (f v) k → home k ≡ v) → ((v : ℕ) → IsDistinct nat_eq (f v)) → (vs : List ℕ) → IsDistinct nat_eq vs → IsDistinct nat_eq (flat_map f vs)
distinct_flat_map f home tells each [] d = d
distinct_flat_map f home tells each (x ∷ vs) d =
    distinct_append (f x) (flat_map f vs) (each x) (distinct_flat_map f home tells each vs (IsDistinct-tail nat_eq x vs d))
    (λ q here there.
    let other = from_flat_map f vs q there in
    let same : x ≡ other.node = sym (tells x q here) ∙ tells other.node q other.has in
    eqb-false x x (All-contains (λ y. nat_eq x y ≡ false) vs x (All-from_recursion (λ y. nat_eq x y ≡ false) vs (IsDistinct-head nat_eq x vs d)) (subst (Contains vs) (sym same) other.listed)) refl)

distinct_places : (v s : ℕ) (xs : List ℕ) → IsDistinct nat_eq (places_from v s xs)
distinct_places v s [] = distinct_from_apart [] (λ i j l h. absurd (omega arith))
distinct_places v s (x ∷ xs) =
    let rest = distinct_places v (suc s) xs in
    elim (cases_Bool (x == v)) [
      | inl here ↦
          let shape : s ∷ places_from v (suc s) xs ≡ places_from v s (x ∷ xs) = rw here refl in
          subst (IsDistinct nat_eq) shape
          (IsDistinct-cons nat_eq s (places_from v (suc s) xs)
          (recursion_from_All (λ y. nat_eq s y ≡ false) (places_from v (suc s) xs)
          (All-from_get_or (λ y. nat_eq s y ≡ false) (places_from v (suc s) xs) 0 (λ i h.
          ne_eqb s (get_or (places_from v (suc s) xs) i 0) (λ e.
          let place = place_from v (suc s) xs i (get_or (places_from v (suc s) xs) i 0) (get_some (places_from v (suc s) xs) i h) in
          omega (arith, e, place.is)))))
          rest)
      | inr gone ↦
          let shape : places_from v (suc s) xs ≡ places_from v s (x ∷ xs) = rw gone refl in
          subst (IsDistinct nat_eq) shape rest
    ]

-- ---- the members

once : {Is : ℕ → Type 0} (xs : List ℕ) → IsDistinct nat_eq xs → ((x : ℕ) → Contains xs x → Is x) → ((x : ℕ) → Is x → Contains xs x) → ListsOnce Is xs
once xs d to back = record {
  exactly = λ x. (to x, back x);
  apart = λ i j l h. eqb-false (get_or xs i 0) (get_or xs j 0) (apart_from_distinct nat_eq xs i j 0 d l h);
}

read_distinct : (r : Reading) (o : Sequence) → IsSequence o → IsDistinct nat_eq (as_read r o.list)
read_distinct Forward o ok = distinct_from_apart o.list ok.each.apart
read_distinct Backward o ok =
    let long = length-reverse o.list in
    distinct_from_apart (reverse o.list) (λ i j l h e.
    let hj : j < length o.list = omega arith in
    let hi : i < length o.list = omega arith in
    ok.each.apart (length o.list - 1 - j) (length o.list - 1 - i) (omega arith) (omega arith)
    (sym (get_or-reverse o.list j 0 hj) ∙ sym e ∙ get_or-reverse o.list i 0 hi))

read_every : (r : Reading) (o : Sequence) → IsSequence o → (v : ℕ) → v < length o.list → Contains (as_read r o.list) v
read_every Forward o ok v h = ok.each.every v h
read_every Backward o ok v h =
    let at = ok.each.every v h in
    let there : length o.list - 1 - at.0 < length o.list = omega (arith, at.1) in
    let back : length o.list - 1 - (length o.list - 1 - at.0) ≡ at.0 = omega (arith, at.1) in
    (length o.list - 1 - at.0, omega (arith, there, length-reverse o.list), get_or-reverse o.list (length o.list - 1 - at.0) v there ∙ ap (λ i. get_or o.list i v) back ∙ at.2)

pub members_distinct : (o : Sequence) (set : List Bool) (r : Reading) → IsSequence o → IsDistinct nat_eq (in_order r o.list set)
members_distinct o set r ok = subst (IsDistinct nat_eq) (left_start r o.list set) (distinct_filter (λ v. has set v) (as_read r o.list) (read_distinct r o ok))

to_member : (o : Sequence) (set : List Bool) (r : Reading) (v : ℕ) → Contains (in_order r o.list set) v → IsTrue (has set v)
to_member o set r v h = (from_filter (λ x. has set x) (as_read r o.list) v (subst (λ (xs : List ℕ). Contains xs v) (sym (left_start r o.list set)) h)).1

from_member : (o : Sequence) (set : List Bool) (r : Reading) → IsSequence o → length set ≡ length o.list → (v : ℕ) → IsTrue (has set v) → Contains (in_order r o.list set) v
from_member o set r ok long v h =
    let inside : v < length o.list = omega (arith, has_within set v h) in
    subst (λ (xs : List ℕ). Contains xs v) (left_start r o.list set) (to_filter (λ x. has set x) (as_read r o.list) v (read_every r o ok v inside) h)

pub members_come_once : MembersComeOnce
members_come_once o set r ok long = once (in_order r o.list set) (members_distinct o set r ok) (to_member o set r) (from_member o set r ok long)

-- ---- the edges

link_to : (r : Reading) (es : List Edge) (set : List Bool) (k : ℕ) → k < length es → IsTrue (has set (start_of r es k)) → IsTrue (has set (end_of r es k)) → IsLink es set k
link_to Forward es set k h s e = record { within = h; from = s; to = e }
link_to Backward es set k h s e = record { within = h; from = e; to = s }

link_start : (r : Reading) (es : List Edge) (set : List Bool) (k : ℕ) → IsLink es set k → IsTrue (has set (start_of r es k))
link_start Forward es set k l = l.from
link_start Backward es set k l = l.to

link_end : (r : Reading) (es : List Edge) (set : List Bool) (k : ℕ) → IsLink es set k → IsTrue (has set (end_of r es k))
link_end Forward es set k l = l.to
link_end Backward es set k l = l.from

starting_has : (r : Reading) (es : List Edge) (k : ℕ) → k < length es → Contains (starting r es (start_of r es k)) k
starting_has Forward es k h =
    let place = place_listed (source_of es k) 0 (sources es) k (omega (arith, length-map es (λ (x : Edge). x.from))) refl in
    let n : 0 + k ≡ k = omega arith in
    at_place (places (source_of es k) (sources es)) place.at k (place.is ∙ ap Some n)
starting_has Backward es k h =
    let place = place_listed (target_of es k) 0 (targets es) k (omega (arith, length-map es (λ (x : Edge). x.to))) refl in
    let n : 0 + k ≡ k = omega arith in
    at_place (places (target_of es k) (targets es)) place.at k (place.is ∙ ap Some n)

starting_distinct : (r : Reading) (es : List Edge) (v : ℕ) → IsDistinct nat_eq (starting r es v)
starting_distinct Forward es v = distinct_places v 0 (sources es)
starting_distinct Backward es v = distinct_places v 0 (targets es)

pub links_come_once : LinksComeOnce
links_come_once es o set r ok long =
    let ends : ℕ → Bool = λ k. has set (end_of r es k) in
    let nodes = in_order r o.list set in
    let start : (v k : ℕ) → Contains (links_of r es set v) k → start_of r es k ≡ v = λ v k h.
    let at = place_of (starting r es v) k (from_filter ends (starting r es v) k h).0 in
    (starts_at r es v at.0 k at.1).start in
    once (links_in_order r es o.list set)
    (distinct_flat_map (links_of r es set) (start_of r es) start (λ v. distinct_filter ends (starting r es v) (starting_distinct r es v)) nodes (members_distinct o set r ok))
    (λ k h.
    let from = from_flat_map (links_of r es set) nodes k h in
    let parts = from_filter ends (starting r es from.node) k from.has in
    let at = place_of (starting r es from.node) k parts.0 in
    let starts = starts_at r es from.node at.0 k at.1 in
    link_to r es set k starts.within (ap (has set) starts.start ∙ to_member o set r from.node from.listed) parts.1)
    (λ k l.
    in_flat_map (links_of r es set) nodes (start_of r es k) k (from_member o set r ok long (start_of r es k) (link_start r es set k l))
    (to_filter ends (starting r es (start_of r es k)) k (starting_has r es k l.within) (link_end r es set k l)))
