-- The parts for true and for false split a set.
use Rattle.std.proofs.Common.{◌≡◌, ◌≢◌, ℕ, ◌<◌, ◌⊎◌, inl, inr, ⊎_elim, Bool, true, false, ◌||◌, List, length, map, refl, ap, sym, ◌∙◌, subst, arith}
use Rattle.std.specs.Prelude.{IsTrue, Contains, not, slice_index, slice_index_or}
use Rattle.std.proofs.lemmas.List.{length-map, get_or-map, get_or_default}
use Rattle.digraphs.specs.Bits.{has}
use Rattle.digraphs.specs.Graph.{Graph}
use Rattle.digraph_orders.specs.Laws.{OrderListsEach}
use Rattle.digraph_orders.specs.Orders.{ListsEach}
use Rattle.digraph_orders.specs.Sequences.{Sequence, IsOrderOf, IsSequence}
use Rattle.guppy_support.specs.Laws.{ListsOnce, MembersComeOnce}
use Rattle.guppy_packages.specs.declared.direction.DependencyDirection.{DependencyDirection}
use Rattle.feature_core.specs.Built.{digraph_of}
use Rattle.feature_graph.proofs.ListLemmas.{from_map, into_map}
use Rattle.guppy_packages.specs.PackageSets.{reading_of}
use Rattle.feature_graph.specs.Ordered.{ordered_nodes}
use Rattle.feature_graph.specs.PartLaws.{AreSplit}
use Rattle.feature_graph.specs.Parts.{IsPart, is_yes}
use Rattle.feature_graph.specs.Values.{Set}

sequence_of : OrderListsEach → (g : Graph) (o : Sequence) → IsOrderOf g o → IsSequence o
sequence_of law g o order =
    let long : length o.list ≡ g.nodes = order.order.long in
    record {
      each = subst (λ n. ListsEach n o.list) (sym long) (law g o.list order.order);
      long = order.long ∙ sym long;
      below = λ v h. order.below v (omega (arith, h, long));
    }

same_answer : (b c : Bool) → (b ≡ true → c ≡ true) → (c ≡ true → b ≡ true) → b ≡ c
same_answer true c f g = sym (f refl)
same_answer false true f g = g refl
same_answer false false f g = refl

pub filter_is_first : (s a c : Set) (calls : List (ℕ × Bool)) → IsPart is_yes calls s a → IsPart is_yes calls s c → (n : ℕ) → has a.members n ≡ has c.members n
filter_is_first s a c calls one other n =
    same_answer (has a.members n) (has c.members n) (λ h. (other.exact n).1 ((one.exact n).0 h)) (λ h. (one.exact n).1 ((other.exact n).0 h))

bool_cases : (b : Bool) → (b ≡ true) ⊎ (b ≡ false)
bool_cases true = inl refl
bool_cases false = inr refl

no_both : (b : Bool) → b ≡ true → not b ≡ true → ⊥
no_both true h k = cc
no_both false h k = cc

or_left : (b c : Bool) → b ≡ true → (b || c) ≡ true
or_left true c h = refl
or_left false c h = cc

or_right : (b c : Bool) → c ≡ true → (b || c) ≡ true
or_right true c h = refl
or_right false c h = h

or_cases : (b c : Bool) → (b || c) ≡ true → (b ≡ true) ⊎ (c ≡ true)
or_cases true c h = inl refl
or_cases false c h = inr h

order_of : (i j : ℕ) → (i < j) ⊎ ((j < i) ⊎ (i ≡ j))
order_of i j = grind arith

-- in a list of calls with distinct nodes, each node has one result
module _ (calls : List (ℕ × Bool)) (apart : (i j : ℕ) → i < j → j < length (map (λ x. x.0) calls) → slice_index (map (λ x. x.0) calls) i ≢ slice_index (map (λ x. x.0) calls) j) where
  first_at : (i n : ℕ) (b : Bool) → i < length calls → slice_index_or calls i (n, b) ≡ (n, b) → slice_index (map (λ x. x.0) calls) i ≡ n
  first_at i n b within is = get_or-map (λ (x : ℕ × Bool). x.0) calls i (n, b) 0 within ∙ ap (λ x. x.0) is

  one_call : (n : ℕ) (b c : Bool) → Contains calls (n, b) → Contains calls (n, c) → b ≡ c
  one_call n b c (i, within, is) (j, below, it) =
      let long = length-map calls (λ (x : ℕ × Bool). x.0) in
      ⊎_elim
      (λ before. absurd (apart i j before (omega (arith, long, below)) (first_at i n b within is ∙ sym (first_at j n c below it))))
      (λ rest. ⊎_elim
      (λ after. absurd (apart j i after (omega (arith, long, within)) (first_at j n c below it ∙ sym (first_at i n b within is))))
      (λ same. at_one i j same b c within is it)
      rest)
      (order_of i j)
    where
      at_one : (i j : ℕ) → i ≡ j → (b c : Bool) → i < length calls → slice_index_or calls i (n, b) ≡ (n, b) → slice_index_or calls j (n, c) ≡ (n, c) → b ≡ c
      at_one i j same b c within is it = ap (λ x. x.1) (sym is ∙ get_or_default calls i (n, b) (n, c) within ∙ ap (λ k. slice_index_or calls k (n, c)) same ∙ it)

pub partition_is_split : OrderListsEach → MembersComeOnce → (direction : DependencyDirection) (s a b : Set) (o : Sequence) (calls : List (ℕ × Bool)) → IsOrderOf (digraph_of s.graph.built) o → length s.members ≡ length o.list
    → map (λ x. x.0) calls ≡ ordered_nodes direction s o → IsPart is_yes calls s a → IsPart not calls s b → AreSplit s a b
partition_is_split lists once direction s a b o calls order long each by_yes by_no =
    let seq = sequence_of lists (digraph_of s.graph.built) o order in
    let listed : ListsOnce (λ v. IsTrue (has s.members v)) (map (λ x. x.0) calls) = subst (ListsOnce (λ v. IsTrue (has s.members v))) (sym each) (once o s.members (reading_of direction) seq long) in
    record {
      apart = λ n h k.
          let one = (by_yes.exact n).0 h in
          let other = (by_no.exact n).0 k in
          no_both one.0 one.2 (subst (λ z. not z ≡ true) (sym (one_call calls listed.apart n one.0 other.0 one.1 other.1)) other.2);
      whole = λ n. same_answer (has s.members n) (has a.members n || has b.members n)
          (λ h.
          let call = from_map (λ (x : ℕ × Bool). x.0) calls n ((listed.exactly n).1 h) in
          let there : Contains calls (n, call.0.1) = subst (λ k. Contains calls (k, call.0.1)) call.2 call.1 in
          ⊎_elim
          (λ is. or_left (has a.members n) (has b.members n) ((by_yes.exact n).1 (call.0.1, there, is)))
          (λ is. or_right (has a.members n) (has b.members n) ((by_no.exact n).1 (call.0.1, there, ap not is)))
          (bool_cases call.0.1))
          (λ h. ⊎_elim
          (λ is. let one = (by_yes.exact n).0 is in (listed.exactly n).0 (into_map (λ (x : ℕ × Bool). x.0) calls (n, one.0) one.1))
          (λ is. let one = (by_no.exact n).0 is in (listed.exactly n).0 (into_map (λ (x : ℕ × Bool). x.0) calls (n, one.0) one.1))
          (or_cases (has a.members n) (has b.members n) h));
    }
