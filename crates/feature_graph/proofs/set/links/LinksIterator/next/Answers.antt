use Rattle.std.proofs.Common.{◌<◌, length}
use Rattle.std.proofs.lemmas.List.Elements.{All-rest}
use Rattle.feature_graph.specs.Views.{built_of}
use Rattle.feature_graph.proofs.set.links.LinksIterator.next.Goals as goal

pub invariant_of-self-2 : goal.invariant_of-self-2
invariant_of-self-2 c = All-rest (λ k. k < length (built_of c.self.inside.graph).edges) c.in_ok-number.number c.next.new.self c.self.inside.numbers c.in_ok-number.ensures.steps c.self.invariant
