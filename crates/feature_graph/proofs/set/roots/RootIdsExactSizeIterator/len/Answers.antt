use Rattle.std.proofs.Common.{◌∙◌, sym}
use Rattle.std.specs.Vec.Iter.{into_iter_items}
use Rattle.feature_core.specs.Nodes.{nodes}
use Rattle.feature_graph.specs.Views.{tables_of_graph}
use Rattle.feature_graph.proofs.OrderedLemmas.{as_many_names}
use Rattle.feature_graph.proofs.set.roots.RootIdsExactSizeIterator.len.Goals as goal

pub returns-clause-value : goal.returns-clause-value
returns-clause-value c =
    let items = into_iter_items c.self.inside.numbers in
    rw (← c.self.view_is) (c.len.ensures ∙ c.self.inside.numbers.rest.ok.0 ∙ sym (as_many_names (nodes (tables_of_graph c.self.inside.graph)) items c.self.invariant))
