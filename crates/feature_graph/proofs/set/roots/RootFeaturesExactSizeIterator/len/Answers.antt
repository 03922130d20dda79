use Rattle.std.proofs.Common.{◌∙◌, sym}
use Rattle.std.specs.Vec.Iter.{into_iter_items}
use Rattle.feature_core.specs.Nodes.{nodes}
use Rattle.feature_graph.specs.Names.{names_of_nodes}
use Rattle.feature_graph.specs.Views.{tables_of_graph}
use Rattle.feature_graph.proofs.OrderedLemmas.{as_many_names, as_many_features}
use Rattle.feature_graph.proofs.set.roots.RootFeaturesExactSizeIterator.len.Goals as goal

pub returns-clause-value : goal.returns-clause-value
returns-clause-value c =
    let t = tables_of_graph c.self.inside.graph in
    let items = into_iter_items c.self.inside.numbers in
    rw (← c.self.view_is)
    (c.len.ensures ∙ c.self.inside.numbers.rest.ok.0 ∙ sym (as_many_features t (names_of_nodes t items) ∙ as_many_names (nodes t) items c.self.invariant))
