use Rattle.std.proofs.Common.{◌≡◌, map, take}
use Rattle.feature_labels.specs.Names.{id_of}
use Rattle.feature_graph.specs.Names.{names_of_nodes}
use Rattle.feature_graph.specs.Views.{tables_of_graph}
use Rattle.feature_graph.proofs.cycles.ids_of.Given as goal

abbrev pub invariant-numbers : goal.invariant-numbers
invariant-numbers l = map id_of l.ids.items ≡ names_of_nodes (tables_of_graph l.graph) (take l.number-index l.numbers)
