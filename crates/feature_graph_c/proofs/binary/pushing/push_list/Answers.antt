use Rattle.feature_graph_c.proofs.EntryLemmas.{entry_next}
use Rattle.feature_graph_c.proofs.binary.pushing.push_list.Goals as goal

pub loop-at-preserved : goal.loop-at-preserved
loop-at-preserved g c =
    let entry = c.in_ok-push.ensures in
    entry_next (g.E.Entries.entries c.args.list.now) c.loop-at.at entry.0 c.loop-at.bytes.items c.push.new.bytes.items _ entry.1 entry.2 c.loop-at.invariant
