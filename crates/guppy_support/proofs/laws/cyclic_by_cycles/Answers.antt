use Rattle.guppy_support.proofs.CycleLemmas.{cyclic_by_cycles}
use Rattle.guppy_support.proofs.laws.cyclic_by_cycles.Goals as goal

pub returns : goal.returns
returns c = λ g o v ok of h. cyclic_by_cycles c.cycles_are_components.ensures g o ok of (c.order_lists_each.ensures g o.list of.order) v h
