-- The members of a set by package, in the order of packages.
use Rattle.std.specs.Prelude.{◌≡◌, ℕ, List, filter, map, reverse}
use Rattle.digraph_orders.specs.Orders.{IsOrder}
use Rattle.guppy_packages.specs.PackageOrder.{digraph_of_packages}
use Rattle.guppy_packages.specs.declared.direction.DependencyDirection.{DependencyDirection}
use Rattle.guppy_packages.specs.declared.direction.DependencyDirection.TheVariants.{Forward, Reverse}
use Rattle.feature_labels.specs.Lists.{ListValue}
use Rattle.feature_graph.specs.PackageLists.{ListsMembers}
use Rattle.feature_graph.specs.Packages.{has_member_of}
use Rattle.feature_graph.specs.Values.{Set}

-- an order in a direction: reversed for `Reverse`
abbrev pub as_read : DependencyDirection → List ℕ → List ℕ
as_read Forward order = order
as_read Reverse order = reverse order

-- the packages with a member, among these
abbrev pub with_members : Set → List ℕ → List ℕ
with_members s numbers = filter (λ p. has_member_of s.graph.tables s.members p) numbers

-- packages by their numbers, each paired with the set
abbrev pub beside : Set → List ℕ → List (Set × ℕ)
beside s numbers = map (λ p. (s, p)) numbers

-- the list has exactly the set's features in the package
abbrev pub IsOfPackage : ListValue → Set × ℕ → Type 0
IsOfPackage list p = ListsMembers p.0.graph.tables p.0.members p.1 list

-- the packages with a member, in the order of packages, reversed for `Reverse`
pub record ListsByPackage (direction : DependencyDirection) (s : Set) (packages : List (Set × ℕ)) : Type 0 where
  pub order : List ℕ
  pub is_order : IsOrder (digraph_of_packages s.graph.tables).edges (digraph_of_packages s.graph.tables).nodes order
  pub listed : packages ≡ beside s (with_members s (as_read direction order))
