use Rattle.feature_core.proofs.GraphContent.{built_count, ends_are_nodes, forward_reverse, reverse_forward, reverse_ungated, reach_tables}
use Rattle.feature_core.proofs.graph_laws.content_of_graph.Goals as goal

pub returns-clause-count : goal.returns-clause-count
returns-clause-count c = built_count c.args.graph.now

pub returns-clause-ends : goal.returns-clause-ends
returns-clause-ends c = ends_are_nodes c.args.graph.now c.facts.ensures

pub returns-clause-reverse : goal.returns-clause-reverse
returns-clause-reverse c = forward_reverse

pub returns-clause-back : goal.returns-clause-back
returns-clause-back c = reverse_forward

pub returns-clause-ungated : goal.returns-clause-ungated
returns-clause-ungated c = reverse_ungated

pub returns-clause-reach : goal.returns-clause-reach
returns-clause-reach c = reach_tables c.args.graph.now
