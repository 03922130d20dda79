use Rattle.std.proofs.Common.{arith}
use Rattle.feature_graph.proofs.set.packages.InitialPackagesIterator.next.Goals as goal

pub overflow_add-self : goal.overflow_add-self
overflow_add-self c =
    let within = c.in_ok-package_ix.ensures.least.1 in
    let fits = c.in_ok-package_ix.ensures.fits in
    omega (arith, within, fits)
