-- Of two links of one start, the one that ends at the smaller number comes first.
use Rattle.std.proofs.Common.{◌≡◌, ℕ, zero, suc, ◌<◌, inl, inr, Bool, false, List, [], ◌∷◌, ◌++◌, length, get_or, refl, sym, ◌∙◌, subst, arith}
use Rattle.std.specs.Prelude.{Contains, filter, flat_map, nat_eq, ◌==◌}
use Rattle.std.specs.List.{IsDistinct}
use Rattle.std.proofs.lemmas.Bool.{cases_Bool, cases_eq, eqb-false}
use Rattle.std.proofs.lemmas.List.Elements.{Contains-append_right, Contains-append_cases, Contains-get_or, All-contains, All-from_recursion}
use Rattle.std.proofs.lemmas.Map.Keys.{IsDistinct-head, IsDistinct-tail}
use Rattle.digraphs.specs.declared.digraph.Edge.{Edge}
use Rattle.digraphs.specs.Graph.{Graph, IsDigraph, sources, targets, source_of}
use Rattle.digraphs.specs.Bits.{has}
use Rattle.digraphs.specs.Rows.{places_from}
use Rattle.digraphs.proofs.FaultLemmas.{ascends}
use Rattle.guppy_support.specs.declared.reading.Reading.{Reading}
use Rattle.guppy_support.specs.declared.reading.Reading.TheVariants.{Forward, Backward}
use Rattle.guppy_support.specs.Views.{in_order, links_of, links_in_order, starting, start_of, end_of}
use Rattle.guppy_support.specs.Laws.{LinksAscend}
use Rattle.guppy_support.proofs.Distinct.{from_filter}
use Rattle.guppy_support.proofs.OnceLemmas.{place_of, from_flat_map, members_distinct}
use Rattle.guppy_support.proofs.Places.{place_from, starts_at}

-- ---- lists in which each element has R to those after it

abbrev pub Rises : (ℕ → ℕ → Type 0) → List ℕ → Type 0
Rises R [] = Unit {0}
Rises R (x ∷ xs) = ((y : ℕ) → Contains xs y → R x y) × Rises R xs

rises_at : (R : ℕ → ℕ → Type 0) (xs : List ℕ) → Rises R xs → (i j : ℕ) → i < j → j < length xs → R (get_or xs i 0) (get_or xs j 0)
rises_at R [] h i j l w = absurd (omega arith)
rises_at R (x ∷ xs) h zero zero l w = absurd (omega arith)
rises_at R (x ∷ xs) h zero (suc j) l w = h.0 (get_or xs j 0) (Contains-get_or xs j 0 (omega arith))
rises_at R (x ∷ xs) h (suc i) zero l w = absurd (omega arith)
rises_at R (x ∷ xs) h (suc i) (suc j) l w = rises_at R xs h.1 i j (omega arith) (omega arith)

further : (x : ℕ) (xs : List ℕ) (y : ℕ) → Contains xs y → Contains (x ∷ xs) y
further x xs y h = Contains-append_right (x ∷ []) xs y h

rises_append : (R : ℕ → ℕ → Type 0) (xs ys : List ℕ) → Rises R xs → Rises R ys → ((x y : ℕ) → Contains xs x → Contains ys y → R x y) → Rises R (xs ++ ys)
rises_append R [] ys a b across = b
rises_append R (x ∷ xs) ys a b across = (
  λ y h. elim (Contains-append_cases xs ys y h) [ inl here ↦ a.0 y here | inr there ↦ across x y (0, omega arith, refl) there ],
  rises_append R xs ys a.1 b (λ v w p q. across v w (further x xs v p) q),
)

rises_filter : (R : ℕ → ℕ → Type 0) (p : ℕ → Bool) (xs : List ℕ) → Rises R xs → Rises R (filter p xs)
rises_filter R p [] h = h
rises_filter R p (x ∷ xs) h =
    let rest = rises_filter R p xs h.1 in
    elim (cases_Bool (p x)) [
      | inl e ↦ rw e (λ y c. h.0 y (from_filter p xs y c).0, rest)
      | inr e ↦ rw e rest
    ]

rises_weaker : (R Q : ℕ → ℕ → Type 0) (xs : List ℕ) → ((x y : ℕ) → Contains xs x → Contains xs y → R x y → Q x y) → Rises R xs → Rises Q xs
rises_weaker R Q [] f h = h
rises_weaker R Q (x ∷ xs) f h = (
  λ y c. f x y (0, omega arith, refl) (further x xs y c) (h.0 y c),
  rises_weaker R Q xs (λ v w a b. f v w (further x xs v a) (further x xs w b)) h.1,
)

-- ---- the edges of a start

abbrev Up : ℕ → ℕ → Type 0
Up j k = j < k

places_rise : (v s : ℕ) (xs : List ℕ) → Rises Up (places_from v s xs)
places_rise v s [] = tt
places_rise v s (x ∷ xs) =
    let rest = places_rise v (suc s) xs in
    elim (cases_Bool (x == v)) [
      | inl here ↦
          let shape : s ∷ places_from v (suc s) xs ≡ places_from v s (x ∷ xs) = rw here refl in
          subst (Rises Up) shape (λ y c. let at = place_of (places_from v (suc s) xs) y c in let p = place_from v (suc s) xs at.0 y at.1 in omega (arith, p.is), rest)
      | inr gone ↦
          let shape : places_from v (suc s) xs ≡ places_from v s (x ∷ xs) = rw gone refl in
          subst (Rises Up) shape rest
    ]

starting_rise : (r : Reading) (es : List Edge) (v : ℕ) → Rises Up (starting r es v)
starting_rise Forward es v = places_rise v 0 (sources es)
starting_rise Backward es v = places_rise v 0 (targets es)

abbrev pub ByEnd : Reading → List Edge → ℕ → ℕ → Type 0
ByEnd r es j k = start_of r es j ≡ start_of r es k → end_of r es j < end_of r es k

by_end : (r : Reading) (g : Graph) → IsDigraph g → (j k : ℕ) → j < k → k < length g.edges → ByEnd r g.edges j k
by_end Forward g ok j k l w e = (ascends g ok j k l w).by_second e
by_end Backward g ok j k l w e =
    let before = ascends g ok j k l w in
    elim (cases_eq (source_of g.edges j) (source_of g.edges k)) [
      | inl s ↦ absurd (omega (arith, e, before.by_second s))
      | inr n ↦ omega (arith, n, before.by_first)
    ]

links_of_rise : (r : Reading) (g : Graph) → IsDigraph g → (set : List Bool) (v : ℕ) → Rises (ByEnd r g.edges) (links_of r g.edges set v)
links_of_rise r g ok set v =
    let all = starting r g.edges v in
    rises_filter (ByEnd r g.edges) (λ k. has set (end_of r g.edges k)) all
    (rises_weaker Up (ByEnd r g.edges) all
    (λ j k a b l. let at = place_of all k b in by_end r g ok j k l (starts_at r g.edges v at.0 k at.1).within)
    (starting_rise r g.edges v))

start_is : (r : Reading) (es : List Edge) (set : List Bool) (v k : ℕ) → Contains (links_of r es set v) k → start_of r es k ≡ v
start_is r es set v k h =
    let at = place_of (starting r es v) k (from_filter (λ i. has set (end_of r es i)) (starting r es v) k h).0 in
    (starts_at r es v at.0 k at.1).start

all_rise : (r : Reading) (g : Graph) → IsDigraph g → (set : List Bool) (vs : List ℕ) → IsDistinct nat_eq vs → Rises (ByEnd r g.edges) (flat_map (links_of r g.edges set) vs)
all_rise r g ok set [] d = tt
all_rise r g ok set (x ∷ vs) d =
    let f = links_of r g.edges set in
    rises_append (ByEnd r g.edges) (f x) (flat_map f vs) (links_of_rise r g ok set x) (all_rise r g ok set vs (IsDistinct-tail nat_eq x vs d))
    (λ j k here there e.
    let other = from_flat_map f vs k there in
    let same : x ≡ other.node = sym (start_is r g.edges set x j here) ∙ e ∙ start_is r g.edges set other.node k other.has in
    absurd (eqb-false x x (All-contains (λ y. nat_eq x y ≡ false) vs x (All-from_recursion (λ y. nat_eq x y ≡ false) vs (IsDistinct-head nat_eq x vs d)) (subst (Contains vs) (sym same) other.listed)) refl))

pub links_ascend : LinksAscend
links_ascend g o set r ok seq =
    record {
      each = rises_at (ByEnd r g.edges) (links_in_order r g.edges o.list set) (all_rise r g ok set (in_order r o.list set) (members_distinct o set r seq));
    }
