use Rattle.digraph_orders.proofs.LawLemmas.{cycles_are_mutual}
use Rattle.digraph_orders.proofs.laws.cycles_are_mutual.Goals as goal

pub returns : goal.returns
returns c = cycles_are_mutual
