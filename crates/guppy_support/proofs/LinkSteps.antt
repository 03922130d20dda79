-- The remaining links.
use Rattle.std.proofs.Common.{◌≡◌, ℕ, ◌+◌, ◌<◌, inl, inr, Bool, true, false, List, [], ◌∷◌, length, refl, ap, sym, ◌∙◌, subst, Option, Some, None, All}
use Rattle.std.specs.Prelude.{slice_get, filter, MatchOption, IfSome, flat_map, ◌++◌}
use Rattle.std.proofs.lemmas.Bool.{cases_lt, false≢true}
use Rattle.std.proofs.lemmas.List.{get_or_past}
use Rattle.std.proofs.lemmas.List.Elements.{All-weaker, All-head, All-rest, All-same, All-nil, filter_passes}
use Rattle.digraphs.specs.declared.digraph.Edge.{Edge}
use Rattle.digraphs.specs.Bits.{has}
use Rattle.guppy_support.specs.declared.reading.Reading.{Reading}
use Rattle.guppy_support.specs.Views.{in_order, starting, end_of, links_of}
use Rattle.guppy_support.specs.inner.Cursors.{as_read, members_left, links_after, links_left}
use Rattle.guppy_support.proofs.Readings.{left_start}
use Rattle.guppy_support.proofs.Places.{rest_some, rest_none}

-- A set has no number from its size on.
pub has_within : (set : List Bool) (v : ℕ) → has set v ≡ true → v < length set
has_within set v h = elim (cases_lt v (length set)) [ inl l ↦ l | inr past ↦ absurd (false≢true (sym (get_or_past set v false past) ∙ h)) ]

-- The members are below the set's size.
pub members_below : (r : Reading) (list : List ℕ) (set : List Bool) → All (λ v. v < length set) (in_order r list set)
members_below r list set =
    subst (All (λ v. v < length set)) (left_start r list set)
    (All-weaker (λ v. has set v ≡ true) (λ v. v < length set) (λ v. has_within set v) (members_left r list set 0) (filter_passes (λ v. has set v) (as_read r list)))

pub after_yes : (r : Reading) (es : List Edge) (set : List Bool) (v i k : ℕ) → slice_get (starting r es v) i ≡ Some k → has set (end_of r es k) ≡ true
    → links_after r es set v i ≡ k ∷ links_after r es set v (i + 1)
after_yes r es set v i k e h = ap (filter (λ j. has set (end_of r es j))) (rest_some (starting r es v) i k e) ∙ rw h refl

pub after_no : (r : Reading) (es : List Edge) (set : List Bool) (v i k : ℕ) → slice_get (starting r es v) i ≡ Some k → has set (end_of r es k) ≡ false
    → links_after r es set v i ≡ links_after r es set v (i + 1)
after_no r es set v i k e h = ap (filter (λ j. has set (end_of r es j))) (rest_some (starting r es v) i k e) ∙ rw h refl

pub after_end : (r : Reading) (es : List Edge) (set : List Bool) (v i : ℕ) → slice_get (starting r es v) i ≡ None → links_after r es set v i ≡ []
after_end r es set v i e = ap (filter (λ j. has set (end_of r es j))) (rest_none (starting r es v) i e)

-- If an iterator's numbers are below `n`, so are its next number and the rest.
pub first_below : (n : ℕ) (xs ys : List ℕ) (o : Option ℕ) → All (λ v. v < n) xs → MatchOption o ((xs ≡ []) × (ys ≡ [])) (λ x. xs ≡ x ∷ ys)
    → IfSome o (λ v. v < n) × All (λ v. v < n) ys
first_below n xs ys (Some x) below e = (All-head (λ v. v < n) x ys (All-same (λ v. v < n) (x ∷ ys) xs (sym e) below), All-rest (λ v. v < n) x ys xs e below)
first_below n xs ys None below e = (tt, All-same (λ v. v < n) ys [] e.1 (All-nil (λ v. v < n)))

-- When the current node has no more links, the next one becomes current.
pub next_start : (r : Reading) (es : List Edge) (set : List Bool) (xs ys : List ℕ) (o : Option ℕ) → MatchOption o ((xs ≡ []) × (ys ≡ [])) (λ x. xs ≡ x ∷ ys)
    → flat_map (links_of r es set) xs ≡ links_left r es set o 0 ys
next_start r es set xs ys (Some x) e = ap (flat_map (links_of r es set)) e
next_start r es set xs ys None e = ap (flat_map (links_of r es set)) e.0

-- The current node has no more links.
pub none_at_hand : (r : Reading) (es : List Edge) (set : List Bool) (v passed : ℕ) (nodes : List ℕ) → links_after r es set v passed ≡ []
    → links_left r es set (Some v) passed nodes ≡ flat_map (links_of r es set) nodes
none_at_hand r es set v passed nodes e = ap (λ l. l ++ flat_map (links_of r es set) nodes) e
