use Rattle.feature_core.proofs.ReleaseTables.{are_releases}
use Rattle.feature_core.proofs.gates.release_table.Goals as goal

pub returns : goal.returns
returns c = are_releases c.args.edges.now c.args.weak.now.entries c.in_ok-released.released.items c.sort_releases.new.released.items c.in_ok-released.ensures c.sort_releases.ensures.permutation c.sort_releases.ensures.sorted
