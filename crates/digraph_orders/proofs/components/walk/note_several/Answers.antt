use Rattle.digraph_orders.specs.inner.ComponentWalk.IsInOrFrom.{at_place}
use Rattle.std.proofs.Common.{refl}
use Rattle.digraph_orders.proofs.components.walk.note_several.Goals as goal

pub returns-clause-all : goal.returns-clause-all
returns-clause-all c = λ more i a b. c.insert_from.ensures.all _ (at_place i a b refl)
