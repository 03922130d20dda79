-- Components of nodes with an edge to themselves.
use Rattle.std.proofs.Common.{◌≡◌, ◌≢◌, ℕ, zero, suc, ◌-◌, ◌<◌, arith, inl, inr, Bool, true, false, List, [], ◌∷◌, length, set, refl, ap, sym, ◌∙◌, subst}
use Rattle.std.specs.Prelude.{Contains, ◌==◌, ◌||◌}
use Rattle.std.specs.List.{list_any}
use Rattle.std.proofs.lemmas.Bool.{cases_eq, eq-eqb, eqb-true, false_from_ne_true, and_from, and_parts}
use Rattle.std.proofs.lemmas.List.{get_or-set_same, get_or-set_other, get_or_default}
use Rattle.std.proofs.lemmas.List.Folds.{Any-from_list_any, list_any-from_Any}
use Rattle.digraphs.specs.declared.digraph.Edge.{Edge}
use Rattle.digraphs.specs.Bits.{has}
use Rattle.digraph_orders.specs.Orders.{ListsEach}
use Rattle.digraph_orders.specs.Sequences.{Sequence, component_of}
use Rattle.guppy_support.specs.Cycles.{nodes_of, is_loop, has_loop, descending}
use Rattle.guppy_support.proofs.CycleLemmas.{in_nodes}
use Rattle.guppy_support.proofs.Distinct.{from_filter}
use Rattle.guppy_support.proofs.RootLemmas.{or_false, or_true}

-- ---- one edge

-- An edge from a node of component `c` to itself.
record IsLoopIn (o : Sequence) (c : ℕ) (e : Edge) : Type 0 where
  pub same : e.from ≡ e.to
  pub node : Contains o.list e.from
  pub inside : component_of o e.from ≡ c

loop_in : (o : Sequence) (c : ℕ) (e : Edge) → list_any (λ v. is_loop v e) (nodes_of o c) ≡ true → IsLoopIn o c e
loop_in o c e h =
    let any = Any-from_list_any (λ v. is_loop v e) (nodes_of o c) h in
    let ends = and_parts (e.from == any.1) (e.to == any.1) any.4 in
    let from : e.from ≡ any.1 = eqb-true e.from any.1 ends.0 in
    let node = from_filter (λ x. component_of o x == c) o.list any.1 (any.0, any.2, any.3) in
    record {
      same = from ∙ sym (eqb-true e.to any.1 ends.1);
      node = subst (Contains o.list) (sym from) node.0;
      inside = ap (component_of o) from ∙ eqb-true (component_of o any.1) c node.1;
    }

-- Inserting the component of an edge from a node to itself counts that edge.
pub noted_loop : (o : Sequence) → ListsEach (length o.list) o.list → (noted : List Bool) (e : Edge) (c : ℕ) → e.from ≡ e.to → e.from < length o.list → component_of o e.from < length noted
    → has (set noted (component_of o e.from) true) c ≡ (has noted c || list_any (λ v. is_loop v e) (nodes_of o c))
noted_loop o each noted e c same inside h =
    let at : ℕ = component_of o e.from in
    elim (cases_eq c at) [
      | inl is ↦
          let here = in_nodes o c e.from (each.every e.from inside) (sym is) in
          let yes : list_any (λ v. is_loop v e) (nodes_of o c) ≡ true =
          list_any-from_Any (λ v. is_loop v e) (nodes_of o c) (here.0, e.from, here.1, here.2, and_from (e.from == e.from) (e.to == e.from) (eq-eqb e.from e.from refl) (eq-eqb e.to e.from (sym same)))
          in
          ap (has (set noted at true)) is ∙ get_or-set_same noted at true false h ∙ or_true (has noted c) ∙ ap (λ b. has noted c || b) (sym yes)
      | inr apart ↦
          let no : list_any (λ v. is_loop v e) (nodes_of o c) ≡ false = false_from_ne_true (list_any (λ v. is_loop v e) (nodes_of o c)) (λ t. apart (sym (loop_in o c e t).inside)) in
          get_or-set_other noted at c true false apart ∙ or_false (has noted c) ∙ ap (λ b. has noted c || b) (sym no)
    ]

-- Any other edge changes nothing.
passed : (o : Sequence) (noted : List Bool) (e : Edge) (c : ℕ) → ¬ IsLoopIn o c e → has noted c ≡ (has noted c || list_any (λ v. is_loop v e) (nodes_of o c))
passed o noted e c other =
    let no : list_any (λ v. is_loop v e) (nodes_of o c) ≡ false = false_from_ne_true (list_any (λ v. is_loop v e) (nodes_of o c)) (λ t. other (loop_in o c e t)) in
    or_false (has noted c) ∙ ap (λ b. has noted c || b) (sym no)

pub noted_apart : (o : Sequence) (noted : List Bool) (e : Edge) (c : ℕ) → e.from ≢ e.to → has noted c ≡ (has noted c || list_any (λ v. is_loop v e) (nodes_of o c))
noted_apart o noted e c apart = passed o noted e c (λ l. apart l.same)

pub noted_outside : (o : Sequence) → ListsEach (length o.list) o.list → (noted : List Bool) (e : Edge) (c : ℕ) → ¬ (e.from < length o.list)
    → has noted c ≡ (has noted c || list_any (λ v. is_loop v e) (nodes_of o c))
noted_outside o each noted e c outside = passed o noted e c (λ l.
    let k = l.node.0 in
    let at = get_or_default o.list k 0 e.from l.node.1 ∙ l.node.2 in
    outside (subst (λ x. x < length o.list) at (each.below k l.node.1)))

-- ---- all edges

shuffled : (a b c d : Bool) → ((a || b) || (c || d)) ≡ ((a || c) || (b || d))
shuffled true b c d = refl
shuffled false true true d = refl
shuffled false true false d = refl
shuffled false false c d = refl

any_or : (p q : ℕ → Bool) (vs : List ℕ) → list_any (λ v. p v || q v) vs ≡ (list_any p vs || list_any q vs)
any_or p q [] = refl
any_or p q (v ∷ vs) = ap (λ b. (p v || q v) || b) (any_or p q vs) ∙ shuffled (p v) (q v) (list_any p vs) (list_any q vs)

or_assoc : (a b c : Bool) → ((a || b) || c) ≡ (a || (b || c))
or_assoc true b c = refl
or_assoc false b c = refl

-- After one more edge, the components found so far and those of the remaining edges are the same together.
pub loop_more : (nodes : List ℕ) (old new all : Bool) (e : Edge) (left rest : List Edge) → left ≡ e ∷ rest → new ≡ (old || list_any (λ v. is_loop v e) nodes)
    → (old || list_any (has_loop left) nodes) ≡ all → (new || list_any (has_loop rest) nodes) ≡ all
loop_more nodes old new all e left rest is noted h =
    ap (λ b. b || list_any (has_loop rest) nodes) noted
    ∙ or_assoc old (list_any (λ v. is_loop v e) nodes) (list_any (has_loop rest) nodes)
    ∙ ap (λ b. old || b) (sym (any_or (λ v. is_loop v e) (has_loop rest) nodes))
    ∙ ap (λ (es : List Edge). old || list_any (has_loop es) nodes) (sym is)
    ∙ h

no_loops : (nodes : List ℕ) → list_any (has_loop []) nodes ≡ false
no_loops [] = refl
no_loops (v ∷ vs) = no_loops vs

pub loops_end : (nodes : List ℕ) (noted all : Bool) (left : List Edge) → left ≡ [] → (noted || list_any (has_loop left) nodes) ≡ all → noted ≡ all
loops_end nodes noted all left none h =
    or_false noted ∙ ap (λ b. noted || b) (sym (no_loops nodes)) ∙ ap (λ (es : List Edge). noted || list_any (has_loop es) nodes) (sym none) ∙ h

-- ---- the components, the last first

pub descending_more : (n : ℕ) → 0 < n → descending n ≡ (n - 1) ∷ descending (n - 1)
descending_more zero h = absurd (omega arith)
descending_more (suc n) h = let e : suc n - 1 ≡ n = omega arith in rw e refl
