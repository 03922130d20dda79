use Rattle.feature_core.specs.Nodes.{nodes}
use Rattle.feature_graph.specs.Views.{tables_of_graph}
use Rattle.feature_graph.proofs.MemberNames.{names_at_members, members_within}
use Rattle.feature_graph.proofs.set.FeatureSet.ids_by_node.Goals as goal

pub invariant_of-result : goal.invariant_of-result
invariant_of-result c = rw c.ones.ensures (members_within (nodes (tables_of_graph c.self.inside.graph)) c.self.inside.members c.self.invariant)

pub returns : goal.returns
returns c = rw (c.ones.ensures, ← c.self.view_is) (names_at_members (nodes (tables_of_graph c.self.inside.graph)) c.self.inside.members c.self.invariant)
