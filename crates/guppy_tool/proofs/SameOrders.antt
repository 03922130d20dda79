-- A digraph has one order, and its components have one numbering.
use Rattle.std.proofs.Common.{◌≡◌, ℕ, zero, suc, ◌<◌, ◌≤◌, ◌⊎◌, inl, inr, ⊎_elim, List, [], ◌∷◌, length, refl, sym, ap, ◌∙◌, subst, arith}
use Rattle.std.specs.Prelude.{slice_index}
use Rattle.std.proofs.lemmas.List.{get_or_default}
use Rattle.digraphs.specs.Graph.{Graph}
use Rattle.digraph_orders.specs.Laws.{OneOrder, OrderListsEach}
use Rattle.digraph_orders.specs.Orders.{ListsEach}
use Rattle.digraph_orders.specs.Sequences.{Sequence, IsOrderOf, component_of}

-- numbers that never fall along n indices, and cover exactly the numbers below m
record IsNumbering (n m : ℕ) (at : ℕ → ℕ) : Type 0 where
  rising : (i j : ℕ) → i < j → j < n → at i ≤ at j
  below : (i : ℕ) → i < n → at i < m
  onto : (c : ℕ) → c < m → (i : ℕ) × (i < n) × (at i ≡ c)

compare : (a b : ℕ) → (a < b) ⊎ ((b < a) ⊎ (a ≡ b))
compare a b = grind arith

first_number : (n m : ℕ) (at : ℕ → ℕ) → IsNumbering n m at → 0 < n → at 0 ≡ 0
first_number n m at h some =
    let below = h.below 0 some in
    let found = h.onto 0 (omega (arith, below)) in
    let is = found.2 in
    ⊎_elim
    (λ later. let up = h.rising 0 found.0 later found.1 in omega (arith, up, is))
    (λ rest. ⊎_elim (λ none. omega (arith, none)) (λ same. ap at same ∙ is) rest)
    (compare 0 found.0)

-- from one index to the next, the number stays or grows by one
next_number : (n m : ℕ) (at : ℕ → ℕ) → IsNumbering n m at → (i : ℕ) → suc i < n → (at (suc i) ≡ at i) ⊎ (at (suc i) ≡ suc (at i))
next_number n m at h i within =
    let up = h.rising i (suc i) (omega arith) within in
    let below = h.below (suc i) within in
    ⊎_elim
    (λ jumps. absurd (no_jump jumps below))
    (λ rest. ⊎_elim (λ less. inl (omega (arith, less, up))) (λ same. inr (sym same)) rest)
    (compare (suc (at i)) (at (suc i)))
  where
    no_jump : suc (at i) < at (suc i) → at (suc i) < m → ⊥
    no_jump jumps below =
        let found = h.onto (suc (at i)) (omega (arith, jumps, below)) in
        let is = found.2 in
        ⊎_elim
        (λ before. let up = h.rising found.0 i before (omega (arith, within)) in omega (arith, up, is))
        (λ rest. ⊎_elim
        (λ after. ⊎_elim
        (λ later. let up = h.rising (suc i) found.0 later found.1 in omega (arith, up, is, jumps))
        (λ more. ⊎_elim
        (λ none. omega (arith, none, after))
        (λ same. let there = ap at same in omega (arith, there, is, jumps))
        more)
        (compare (suc i) found.0))
        (λ same. let there = ap at same in omega (arith, there, is))
        rest)
        (compare found.0 i)

-- two numberings that map two indices to the same number in the same cases
record JoinAlike (n : ℕ) (a b : ℕ → ℕ) : Type 0 where
  there : (i j : ℕ) → i < n → j < n → a i ≡ a j → b i ≡ b j
  back : (i j : ℕ) → i < n → j < n → b i ≡ b j → a i ≡ a j

one_numbering : (n m k : ℕ) (a b : ℕ → ℕ) → IsNumbering n m a → IsNumbering n k b → JoinAlike n a b → (i : ℕ) → i < n → a i ≡ b i
one_numbering n m k a b h g alike zero within = first_number n m a h within ∙ sym (first_number n k b g within)
one_numbering n m k a b h g alike (suc i) within =
    let before : a i ≡ b i = one_numbering n m k a b h g alike i (omega (arith, within)) in
    let inner : i < n = omega (arith, within) in
    ⊎_elim
    (λ stays. ⊎_elim
    (λ too. stays ∙ before ∙ sym too)
    (λ grows. let same = alike.there (suc i) i within inner stays in absurd (omega (arith, same, grows)))
    (next_number n k b g i within))
    (λ grows. ⊎_elim
    (λ stays. let same = alike.back (suc i) i within inner stays in absurd (omega (arith, same, grows)))
    (λ too. grows ∙ ap suc before ∙ sym too)
    (next_number n k b g i within))
    (next_number n m a h i within)

no_more : (n m k : ℕ) (a b : ℕ → ℕ) → IsNumbering n m a → IsNumbering n k b → ((i : ℕ) → i < n → a i ≡ b i) → m < k → ⊥
no_more n m k a b h g same less =
    let found = g.onto m less in
    let below = h.below found.0 found.1 in
    let alike = same found.0 found.1 in
    let is = found.2 in
    omega (arith, below, alike, is)

one_count : (n m k : ℕ) (a b : ℕ → ℕ) → IsNumbering n m a → IsNumbering n k b → ((i : ℕ) → i < n → a i ≡ b i) → m ≡ k
one_count n m k a b h g same =
    ⊎_elim
    (λ less. absurd (no_more n m k a b h g same less))
    (λ rest. ⊎_elim (λ more. absurd (no_more n k m b a g h (λ i l. sym (same i l)) more)) (λ e. e) rest)
    (compare m k)

one_by_places : (xs ys : List ℕ) → length xs ≡ length ys → ((i : ℕ) → i < length xs → slice_index xs i ≡ slice_index ys i) → xs ≡ ys
one_by_places [] [] e same = refl
one_by_places [] (y ∷ ys) e same = absurd (omega (arith, e))
one_by_places (x ∷ xs) [] e same = absurd (omega (arith, e))
one_by_places (x ∷ xs) (y ∷ ys) e same =
    ap (λ z. z ∷ xs) (same 0 (omega arith)) ∙ ap (λ z. y ∷ z) (one_by_places xs ys (omega (arith, e)) (λ i l. same (suc i) (omega (arith, l))))

-- the index of a node in an order
place_of : (n : ℕ) (list : List ℕ) → ListsEach n list → (v : ℕ) → v < n → (i : ℕ) × (i < n) × (slice_index list i ≡ v)
place_of n list each v within =
    let there = each.every v within in
    let l = there.1 in
    let long = each.long in
    (there.0, omega (arith, l, long), get_or_default list there.0 0 v l ∙ there.2)

-- the components of the nodes, in the listed order, are a numbering
numbering_of : (g : Graph) (o : Sequence) → IsOrderOf g o → ListsEach g.nodes o.list → IsNumbering g.nodes o.count (λ i. component_of o (slice_index o.list i))
numbering_of g o x each = record {
  rising = x.rising;
  below = λ i l. x.below (slice_index o.list i) (each.below i l);
  onto = λ c l.
      let node = x.each c l in
      let place = place_of g.nodes o.list each node.0 node.1 in
      (place.0, place.1, ap (component_of o) place.2 ∙ node.2);
}

-- two orders of one digraph with the same list
module _ (g : Graph) (o p : Sequence) (x : IsOrderOf g o) (y : IsOrderOf g p) (list : p.list ≡ o.list) (each : ListsEach g.nodes o.list) where
  other : IsNumbering g.nodes p.count (λ i. component_of p (slice_index o.list i))
  other = subst (λ z. IsNumbering g.nodes p.count (λ i. component_of p (slice_index z i))) list (numbering_of g p y (subst (ListsEach g.nodes) (sym list) each))

  alike : JoinAlike g.nodes (λ i. component_of o (slice_index o.list i)) (λ i. component_of p (slice_index o.list i))
  alike = record {
    there = λ i j l m e. y.same (slice_index o.list i) (slice_index o.list j) (each.below i l) (x.apart (slice_index o.list i) (slice_index o.list j) (each.below i l) (each.below j m) e);
    back = λ i j l m e. x.same (slice_index o.list i) (slice_index o.list j) (each.below i l) (y.apart (slice_index o.list i) (slice_index o.list j) (each.below i l) (each.below j m) e);
  }

  at_places : (i : ℕ) → i < g.nodes → component_of o (slice_index o.list i) ≡ component_of p (slice_index o.list i)
  at_places = one_numbering g.nodes o.count p.count (λ i. component_of o (slice_index o.list i)) (λ i. component_of p (slice_index o.list i)) (numbering_of g o x each) other alike

  same_count : o.count ≡ p.count
  same_count = one_count g.nodes o.count p.count (λ i. component_of o (slice_index o.list i)) (λ i. component_of p (slice_index o.list i)) (numbering_of g o x each) other at_places

  of_node : (v : ℕ) → v < length o.component → component_of o v ≡ component_of p v
  of_node v l =
      let long = x.long in
      let place = place_of g.nodes o.list each v (omega (arith, l, long)) in
      ap (component_of o) (sym place.2) ∙ at_places place.0 place.1 ∙ ap (component_of p) place.2

  same_components : o.component ≡ p.component
  same_components = one_by_places o.component p.component (x.long ∙ sym y.long) of_node

abbrev of_parts : List ℕ → List ℕ → ℕ → Sequence
of_parts list component count = record { list = list; component = component; count = count }

-- a digraph has one order
pub one_sequence : OneOrder → OrderListsEach → (g : Graph) (o p : Sequence) → IsOrderOf g o → IsOrderOf g p → o ≡ p
one_sequence one lists g o p x y =
    let list : o.list ≡ p.list = one g o.list p.list x.order y.order in
    let each : ListsEach g.nodes o.list = lists g o.list x.order in
    ap (λ z. of_parts z o.component o.count) list
    ∙ ap (λ z. of_parts p.list z o.count) (same_components g o p x y (sym list) each)
    ∙ ap (λ z. of_parts p.list p.component z) (same_count g o p x y (sym list) each)
