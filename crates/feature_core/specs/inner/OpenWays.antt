-- The edges of a digraph as unconditional ways.
use Rattle.std.specs.Prelude.{map}
use Rattle.digraphs.specs.declared.digraph.Edge.{Edge}
use Rattle.digraphs.specs.Graph.{Graph}
use Rattle.feature_edges.specs.guppy_packages.declared.direction.DependencyDirection.{DependencyDirection}
use Rattle.feature_edges.specs.guppy_packages.declared.direction.DependencyDirection.TheVariants.{Forward, Reverse}
use Rattle.walk_engine.specs.declared.walks.Ask.TheVariants.{Nobody}
use Rattle.walk_engine.specs.Walks.{Way, Content}

-- An edge as an unconditional way in this direction.
abbrev pub open_way : DependencyDirection → Edge → Way
open_way Forward e = record { start = e.from; far = e.to; ask = Nobody; gate = 0 }
open_way Reverse e = record { start = e.to; far = e.from; ask = Nobody; gate = 0 }

-- All edges as unconditional ways in this direction.
abbrev pub open_ways : DependencyDirection → Graph → Content
open_ways direction g = record { nodes = g.nodes; ways = map (open_way direction) g.edges }
