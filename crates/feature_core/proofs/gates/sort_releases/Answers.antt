use Rattle.std.proofs.Common.{arith, ◌+◌}
use Rattle.std.specs.Prelude.{slice_index_or}
use Rattle.feature_core.proofs.ReleaseTables.{all_up, up_from}
use Rattle.feature_core.proofs.gates.sort_releases.Goals as goal

pub returns-clause-sorted : goal.returns-clause-sorted
returns-clause-sorted c =
    let rs = c.sort_unstable.new.self.items in
    all_up rs (λ k d l. up_from (slice_index_or rs k d) (slice_index_or rs (k + 1) d) (c.sort_unstable.ensures.sorted k d (omega arith) l))
