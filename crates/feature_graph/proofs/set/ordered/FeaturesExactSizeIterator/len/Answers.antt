use Rattle.std.proofs.Common.{◌∙◌, sym}
use Rattle.feature_core.specs.Nodes.{nodes}
use Rattle.feature_graph.specs.Names.{names_of_nodes}
use Rattle.feature_graph.specs.Views.{tables_of_graph}
use Rattle.feature_graph.proofs.OrderedLemmas.{as_many_names, as_many_features}
use Rattle.feature_graph.proofs.set.ordered.FeaturesExactSizeIterator.len.Goals as goal

pub returns-clause-value : goal.returns-clause-value
returns-clause-value c =
    let t = tables_of_graph c.self.inside.graph in
    rw (← c.self.view_is)
    (c.len.ensures.value ∙ sym (as_many_features t (names_of_nodes t c.self.inside.numbers) ∙ as_many_names (nodes t) c.self.inside.numbers c.self.invariant))
