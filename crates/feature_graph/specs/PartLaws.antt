-- Laws of the parts of a set.
use Rattle.std.specs.Prelude.{◌≡◌, ◌||◌, ℕ, Bool, List, IsTrue, map, not, length}
use Rattle.digraphs.specs.Bits.{has}
use Rattle.digraph_orders.specs.Sequences.{Sequence, IsOrderOf}
use Rattle.guppy_packages.specs.declared.direction.DependencyDirection.{DependencyDirection}
use Rattle.feature_core.specs.Built.{digraph_of}
use Rattle.feature_graph.specs.Ordered.{ordered_nodes}
use Rattle.feature_graph.specs.Parts.{IsPart, is_yes}
use Rattle.feature_graph.specs.Values.{Set}

-- the parts are disjoint, and their union is the set
pub record AreSplit (s a b : Set) : Type 0 where
  pub apart : (n : ℕ) → IsTrue (has a.members n) → ¬ IsTrue (has b.members n)
  pub whole : (n : ℕ) → has s.members n ≡ (has a.members n || has b.members n)

-- if the callback was called once for each feature of the set, the features with true and those with false split the
-- set
abbrev pub PartitionIsSplit : Type 0
PartitionIsSplit =
    (direction : DependencyDirection) (s a b : Set) (o : Sequence) (calls : List (ℕ × Bool)) → IsOrderOf (digraph_of s.graph.built) o → length s.members ≡ length o.list
    → map (λ x. x.0) calls ≡ ordered_nodes direction s o → IsPart is_yes calls s a → IsPart not calls s b → AreSplit s a b

-- the same results make the same part
abbrev pub FilterIsFirst : Type 0
FilterIsFirst = (s a c : Set) (calls : List (ℕ × Bool)) → IsPart is_yes calls s a → IsPart is_yes calls s c → (n : ℕ) → has a.members n ≡ has c.members n
