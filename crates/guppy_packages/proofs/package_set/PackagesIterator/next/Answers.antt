use Rattle.std.proofs.Common.{◌<◌, length}
use Rattle.std.proofs.lemmas.List.Elements.{All-rest}
use Rattle.guppy_packages.proofs.package_set.PackagesIterator.next.Goals as goal

pub invariant_of-self-2 : goal.invariant_of-self-2
invariant_of-self-2 c = All-rest (λ p. p < length c.self.inside.graph.now.packages) c.in_ok-package_ix.package_ix c.next.new.self c.self.inside.numbers c.in_ok-package_ix.ensures.steps c.self.invariant
