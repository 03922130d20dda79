-- The description of a feature graph as bytes.
use Rattle.std.specs.Prelude.{◌≡◌, ℕ, List, ◌++◌}
use Rattle.feature_graph_c.specs.binary.Records.{number, flag, list}
use Rattle.guppy_packages.specs.Tables.{Tables}
use Rattle.guppy_packages.specs.PackageOrder.{digraph_of_packages}
use Rattle.digraph_orders.specs.Sequences.{Sequence, IsOrderOf}
use Rattle.feature_core.specs.Built.{Built}
use Rattle.feature_graph_c.specs.records.Packages.{package_record, link_record}
use Rattle.feature_graph_c.specs.records.Edges.{edge_record, weak_record, warning_record}

-- The packages and the package links; the first node of each package, the edges, the weak links, the warnings, and whether each
-- node is on by default; and the numbers of the packages in an order.
abbrev pub description : Tables → Built → List ℕ → List ℕ
description t b order =
    (list package_record t.packages ++ list link_record t.links) ++ list number b.firsts
    ++ (list edge_record b.edges ++ list weak_record b.weak ++ list warning_record b.warnings) ++ list flag b.defaults ++ list number order

-- The bytes describe a feature graph, with the packages in the order of their links.
pub record Describes (t : Tables) (b : Built) (bytes : List ℕ) : Type 0 where
  pub order : Sequence
  pub is_order : IsOrderOf (digraph_of_packages t) order
  pub bytes_are : bytes ≡ description t b order.list
