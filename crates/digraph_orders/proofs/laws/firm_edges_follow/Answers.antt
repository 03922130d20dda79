use Rattle.digraph_orders.proofs.LawLemmas.{firm_follow}
use Rattle.digraph_orders.proofs.laws.firm_edges_follow.Goals as goal

pub returns : goal.returns
returns c = firm_follow
