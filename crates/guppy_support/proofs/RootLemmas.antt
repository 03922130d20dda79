-- Components that an edge leaves.
use Rattle.std.proofs.Common.{◌≡◌, ◌≢◌, ℕ, ◌<◌, inl, inr, Bool, true, false, List, [], ◌∷◌, ◌++◌, length, set, refl, ap, sym, ◌∙◌, All}
use Rattle.std.specs.Prelude.{filter, not, ◌==◌, ◌&&◌, ◌||◌, replicate}
use Rattle.std.specs.List.{list_any, flat_map}
use Rattle.std.proofs.lemmas.Bool.{cases_eq, eq-eqb, ne_eqb}
use Rattle.std.proofs.lemmas.List.{get_or-set_same, get_or-set_other, get_or-replicate, append_assoc, append-nil}
use Rattle.std.proofs.lemmas.List.Elements.{All-append, All-filter, All-nil}
use Rattle.digraphs.specs.declared.digraph.Edge.{Edge}
use Rattle.digraphs.specs.Bits.{has}
use Rattle.digraph_orders.specs.Sequences.{Sequence, component_of}
use Rattle.guppy_support.specs.declared.reading.Reading.{Reading}
use Rattle.guppy_support.specs.Views.{in_order, links_of, links_in_order, starting, end_of, start_of, leaves}
use Rattle.guppy_support.proofs.Places.{starting_within}

-- Every link is an edge.
pub links_within : (r : Reading) (es : List Edge) (list : List ℕ) (set : List Bool) → All (λ k. k < length es) (links_in_order r es list set)
links_within r es list set = of_nodes (in_order r list set)
  where
    of_nodes : (vs : List ℕ) → All (λ k. k < length es) (flat_map (links_of r es set) vs)
    of_nodes [] = All-nil (λ k. k < length es)
    of_nodes (v ∷ vs) = All-append (λ k. k < length es) (links_of r es set v) (flat_map (links_of r es set) vs) (All-filter (λ k. has set (end_of r es k)) (λ k. k < length es) (starting r es v) (starting_within r es v)) (of_nodes vs)

-- ---- one edge is noted

pub or_false : (b : Bool) → b ≡ (b || false)
or_false true = refl
or_false false = refl

pub or_true : (b : Bool) → true ≡ (b || true)
or_true true = refl
or_true false = refl

-- An edge inside a component changes nothing.
pub noted_inside : (r : Reading) (es : List Edge) (o : Sequence) (left : List Bool) (k c : ℕ) → component_of o (end_of r es k) ≡ component_of o (start_of r es k)
    → has left c ≡ (has left c || leaves r es o c k)
noted_inside r es o left k c e =
    let inside : leaves r es o c k ≡ false =
    ap (λ x. (component_of o (start_of r es k) == c) && not (x == c)) e ∙ contradicts (component_of o (start_of r es k) == c) in
    or_false (has left c) ∙ ap (λ b. has left c || b) (sym inside)
  where
    contradicts : (b : Bool) → (b && not b) ≡ false
    contradicts true = refl
    contradicts false = refl

-- An edge that leads to another component adds the component of its start.
pub noted_leaving : (r : Reading) (es : List Edge) (o : Sequence) (left : List Bool) (k c : ℕ) → component_of o (end_of r es k) ≢ component_of o (start_of r es k)
    → component_of o (start_of r es k) < length left → has (set left (component_of o (start_of r es k)) true) c ≡ (has left c || leaves r es o c k)
noted_leaving r es o left k c ne h =
    let from : ℕ = component_of o (start_of r es k) in
    let to : ℕ = component_of o (end_of r es k) in
    elim (cases_eq c from) [
      | inl is ↦
          let out : leaves r es o c k ≡ true = ap (λ x. (from == x) && not (to == x)) is ∙ and_true (from == from) (not (to == from)) (eq-eqb from from refl) (ap not (ne_eqb to from ne)) in
          ap (has (set left from true)) is ∙ get_or-set_same left from true false h ∙ or_true (has left c) ∙ ap (λ b. has left c || b) (sym out)
      | inr apart ↦
          let stays : leaves r es o c k ≡ false = ap (λ b. b && not (to == c)) (ne_eqb from c (λ e. apart (sym e))) in
          get_or-set_other left from c true false apart ∙ or_false (has left c) ∙ ap (λ b. has left c || b) (sym stays)
    ]
  where
    and_true : (a b : Bool) → a ≡ true → b ≡ true → (a && b) ≡ true
    and_true a b x y = rw (x, y) refl

-- ---- what is noted of what is left

pub noted_more : (p : ℕ → Bool) (old new : Bool) (k : ℕ) (ks all : List ℕ) → (xs : List ℕ) → xs ≡ k ∷ ks → new ≡ (old || p k) → (old || list_any p xs) ≡ list_any p all → (new || list_any p ks) ≡ list_any p all
noted_more p old new k ks all xs e is h =
    ap (λ b. b || list_any p ks) is ∙ assoc old (p k) (list_any p ks) ∙ ap (λ (ys : List ℕ). old || list_any p ys) (sym e) ∙ h
  where
    assoc : (a b c : Bool) → ((a || b) || c) ≡ (a || (b || c))
    assoc true b c = refl
    assoc false b c = refl

pub none_noted : (n c : ℕ) → c < n → has (replicate n false) c ≡ false
none_noted n c h = get_or-replicate n c false false h

-- ---- the members that pass

pub kept_more : (p : ℕ → Bool) (xs iter rest all : List ℕ) (v : ℕ) → iter ≡ v ∷ rest → p v ≡ true → xs ++ filter p iter ≡ all → (xs ++ v ∷ []) ++ filter p rest ≡ all
kept_more p xs iter rest all v e yields h =
    let first : filter p (v ∷ rest) ≡ v ∷ filter p rest = rw yields refl in
    append_assoc xs (v ∷ []) (filter p rest) ∙ ap (λ ys. xs ++ ys) (sym first) ∙ ap (λ ys. xs ++ filter p ys) (sym e) ∙ h

pub passed_more : (p : ℕ → Bool) (xs iter rest all : List ℕ) (v : ℕ) → iter ≡ v ∷ rest → p v ≡ false → xs ++ filter p iter ≡ all → xs ++ filter p rest ≡ all
passed_more p xs iter rest all v e fails h =
    let first : filter p (v ∷ rest) ≡ filter p rest = rw fails refl in
    ap (λ ys. xs ++ ys) (sym first) ∙ ap (λ ys. xs ++ filter p ys) (sym e) ∙ h

pub kept_all : (p : ℕ → Bool) (xs iter all : List ℕ) → iter ≡ [] → xs ++ filter p iter ≡ all → xs ≡ all
kept_all p xs iter all e h = sym (append-nil xs) ∙ ap (λ ys. xs ++ filter p ys) (sym e) ∙ h
