use Rattle.std.proofs.Common.{◌≡◌, ℕ, length, map, IsTrue}
use Rattle.std.specs.Prelude.{◌↔◌}
use Rattle.digraphs.specs.Bits.{has}
use Rattle.feature_labels.specs.Names.{id_of}
use Rattle.feature_core.specs.Nodes.{nodes}
use Rattle.feature_graph.specs.Views.{tables_of_graph}
use Rattle.feature_graph.proofs.SetLemmas.{AmongBelow}
use Rattle.feature_graph.proofs.graph.ids.set_of_ids.Given as goal

abbrev pub invariant-ids : goal.invariant-ids
invariant-ids l = record {
  size : length l.members ≡ length (nodes (tables_of_graph l.graph));
  exact : (n : ℕ) → IsTrue (has l.members n) ↔ AmongBelow (tables_of_graph l.graph) (map id_of l.ids) l.id-index n;
}
