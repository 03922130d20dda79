use Rattle.std.proofs.Common.{◌∙◌, sym}
use Rattle.feature_core.specs.Nodes.{nodes}
use Rattle.feature_graph.specs.Views.{tables_of_graph}
use Rattle.feature_graph.proofs.OrderedLemmas.{as_many_names}
use Rattle.feature_graph.proofs.set.ordered.FeatureIdsExactSizeIterator.len.Goals as goal

pub returns-clause-value : goal.returns-clause-value
returns-clause-value c = rw (← c.self.view_is) (c.len.ensures.value ∙ sym (as_many_names (nodes (tables_of_graph c.self.inside.graph)) c.self.inside.numbers c.self.invariant))
