use Rattle.std.proofs.Common.{arith, ◌+◌}
use Rattle.std.specs.Prelude.{slice_index_or}
use Rattle.feature_core.proofs.ReleaseTables.{all_up, up_from}
use Rattle.plan_whys.proofs.links.places.sort_links.Goals as goal

pub returns-clause-sorted : goal.returns-clause-sorted
returns-clause-sorted c =
    let links = c.sort_unstable.new.self.items in
    all_up links (λ k d l. up_from (slice_index_or links k d) (slice_index_or links (k + 1) d) (c.sort_unstable.ensures.sorted k d (omega arith) l))
