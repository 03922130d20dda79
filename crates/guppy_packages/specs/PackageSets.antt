-- Sets of packages, and their members in the order of packages.
use Rattle.std.specs.Prelude.{◌≡◌, ℕ, List, Bool, map}
use Rattle.guppy_support.specs.digraph_orders.Orders.{IsOrder}
use Rattle.guppy_support.specs.Views.{in_order}
use Rattle.guppy_support.specs.declared.reading.Reading.{Reading}
use Rattle.guppy_support.specs.declared.reading.Reading.TheVariants as reading
use Rattle.guppy_packages.specs.Metadata.{package_graph_of, package_number_of}
use Rattle.guppy_packages.specs.PackageOrder.{digraph_of_packages}
use Rattle.guppy_packages.specs.Tables.{Tables}
use Rattle.guppy_packages.specs.declared.direction.DependencyDirection.{DependencyDirection}
use Rattle.guppy_packages.specs.declared.direction.DependencyDirection.TheVariants.{Forward, Reverse}
use Rattle.guppy_packages.specs.declared.package_metadata.PackageMetadata.{PackageMetadata}

-- The graph's tables, and whether each of its packages is a member.
pub record PackageMembers : Type 0 where
  pub tables : Tables
  pub members : List Bool

-- The way in which a direction reads an order.
abbrev pub reading_of : DependencyDirection → Reading
reading_of Forward = reading.Forward
reading_of Reverse = reading.Backward

-- The packages with these numbers, each with its tables.
abbrev pub numbered : Tables → List ℕ → List (Tables × ℕ)
numbered t numbers = map (λ p. (t, p)) numbers

abbrev pub numbered_package : PackageMetadata → Tables × ℕ
numbered_package m = (package_graph_of m, package_number_of m)

-- `packages` are the members in the order of packages, or exactly backwards.
pub record AreInPackageOrder (t : Tables) (direction : DependencyDirection) (members : List Bool) (packages : List (Tables × ℕ)) : Type 0 where
  pub order : List ℕ
  pub is_order : IsOrder (digraph_of_packages t).edges (digraph_of_packages t).nodes order
  pub listed : packages ≡ numbered t (in_order (reading_of direction) order members)
