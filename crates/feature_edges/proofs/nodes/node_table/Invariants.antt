use Rattle.std.proofs.Common.{◌≡◌, map}
use Rattle.std.specs.List.{range_with_len}
use Rattle.feature_edges.specs.Nodes.{first_node}
use Rattle.feature_edges.proofs.NodeLemmas.{packages_before}
use Rattle.feature_edges.proofs.nodes.node_table.Given as goal

abbrev pub invariant-loop-ix : goal.invariant-loop-ix
invariant-loop-ix l = record {
  firsts : l.firsts.items ≡ map (first_node l.graph) (range_with_len 0 l.ix);
  packages : l.packages.items ≡ packages_before l.graph l.ix;
}
