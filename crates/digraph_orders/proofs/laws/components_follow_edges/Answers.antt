use Rattle.digraph_orders.proofs.LawLemmas.{components_follow}
use Rattle.digraph_orders.proofs.laws.components_follow_edges.Goals as goal

pub returns : goal.returns
returns c = components_follow
