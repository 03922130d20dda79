use Rattle.std.specs.BTreeSet.{contains}
use Rattle.std.specs.Ordering.{nat_cmp}
use Rattle.walk_checks.specs.Places.{place_of}
use Rattle.walk_checks.proofs.WaitLemmas.{adds_both}
use Rattle.walk_checks.proofs.resting.wait_for_leaned.Goals as goal

pub returns : goal.returns
returns g c =
    adds_both (g.T.EdgeTable.content c.args.table.now) c.args.reason (place_of c.args.places.now) c.leaned_nodes-start.result.0 c.leaned_nodes-start.result.1 (contains nat_cmp c.args.waiting.now) (contains nat_cmp c.wait_for.new.waiting) (contains nat_cmp c.wait_for-2.new.waiting) c.leaned_nodes-start.ensures c.in_ok-wait_for.ensures c.in_ok-wait_for-2.ensures
