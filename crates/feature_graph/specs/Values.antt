-- Feature graphs, queries and sets as values, independent of where they lie in memory.
use Rattle.std.specs.Prelude.{List, Bool}
use Rattle.guppy_packages.specs.Tables.{Tables}
use Rattle.guppy_packages.specs.declared.direction.DependencyDirection.{DependencyDirection}
use Rattle.feature_core.specs.Built.{Built}

-- the tables of the packages, and the data built from them
pub record Graph : Type 0 where
  pub tables : Tables
  pub built : Built

-- for each node of the graph, whether it is a member
pub record Set : Type 0 where
  pub graph : Graph
  pub members : List Bool

-- the direction, and for each node of the graph whether it is initial
pub record Query : Type 0 where
  pub graph : Graph
  pub direction : DependencyDirection
  pub initials : List Bool
