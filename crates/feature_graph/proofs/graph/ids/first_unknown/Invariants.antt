use Rattle.std.proofs.Common.{map}
use Rattle.feature_labels.specs.Names.{id_of}
use Rattle.feature_graph.specs.Views.{tables_of_graph}
use Rattle.feature_graph.proofs.SetLemmas.{KnownBelow}
use Rattle.feature_graph.proofs.graph.ids.first_unknown.Given as goal

abbrev pub invariant-known : goal.invariant-known
invariant-known l = KnownBelow (tables_of_graph l.graph) (map id_of l.ids) l.id-index
