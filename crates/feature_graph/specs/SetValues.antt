-- Sets of features as values: equality of their graphs, equality of sets, and combinations of two sets.
use Rattle.std.specs.Prelude.{◌≡◌, ℕ, Bool, ◌&&◌, not, nat_eq, length}
use Rattle.std.specs.Cmp.{IsEquivalence}
use Rattle.std.specs.Cmp.Lexicographic.{pointwise}
use Rattle.std.proofs.lemmas.Cmp.{and_equiv, on_equiv, lists_equiv, nat_eq_equiv, nat_list_eq_equiv}
use Rattle.digraphs.specs.Bits.{has, members}
use Rattle.guppy_packages.specs.Rows.{Text}
use Rattle.feature_labels.specs.Names.{LabelName}
use Rattle.feature_labels.specs.Orders.{label_eq, label_eq_equiv}
use Rattle.feature_core.specs.Nodes.{nodes}
use Rattle.feature_graph.specs.Values.{Graph, Set}

-- two graphs count as one: they were built under one stamp, and have the same features in the same order
pub record SameGraph (g h : Graph) : Type 0 where
  pub stamp : g.built.stamp ≡ h.built.stamp
  pub names : nodes g.tables ≡ nodes h.tables

-- two sets are equal: their graphs count as one, and they have the same members
pub record AreEqualSets (a b : Set) : Type 0 where
  pub graph : SameGraph a.graph b.graph
  pub members : members a.members ≡ members b.members

-- whether two features have one name
abbrev pub name_eq : Text × LabelName → Text × LabelName → Bool
name_eq a b = pointwise nat_eq a.0 b.0 && label_eq a.1 b.1

-- whether two graphs count as one
abbrev pub graph_eq : Graph → Graph → Bool
graph_eq g h = nat_eq g.built.stamp h.built.stamp && pointwise name_eq (nodes g.tables) (nodes h.tables)

-- whether two sets are equal
abbrev pub set_eq : Set → Set → Bool
set_eq a b = graph_eq a.graph b.graph && pointwise nat_eq (members a.members) (members b.members)

name_eq_equiv : IsEquivalence name_eq
name_eq_equiv = and_equiv (on_equiv (λ (n : Text × LabelName). n.0) nat_list_eq_equiv) (on_equiv (λ (n : Text × LabelName). n.1) label_eq_equiv)

graph_eq_equiv : IsEquivalence graph_eq
graph_eq_equiv = and_equiv (on_equiv (λ (g : Graph). g.built.stamp) nat_eq_equiv) (on_equiv (λ (g : Graph). nodes g.tables) (lists_equiv name_eq_equiv))

pub set_eq_equiv : IsEquivalence set_eq
set_eq_equiv = and_equiv (on_equiv (λ (s : Set). s.graph) graph_eq_equiv) (on_equiv (λ (s : Set). members s.members) nat_list_eq_equiv)

-- `c` is over the graph of `a`; the test decides whether a node is in `c`, from whether `a` and `b` have it
pub record IsCombined (test : Bool → Bool → Bool) (a b c : Set) : Type 0 where
  pub graph : c.graph ≡ a.graph
  pub size : length c.members ≡ length (nodes a.graph.tables)
  pub each : (n : ℕ) → has c.members n ≡ test (has a.members n) (has b.members n)

-- true for the first alone
abbrev pub first_alone : Bool → Bool → Bool
first_alone a b = a && not b
