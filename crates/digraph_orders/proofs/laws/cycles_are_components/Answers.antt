use Rattle.digraph_orders.proofs.LawLemmas.{cycles_are_components}
use Rattle.digraph_orders.proofs.laws.cycles_are_components.Goals as goal

pub returns : goal.returns
returns c = cycles_are_components
