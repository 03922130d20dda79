use Rattle.std.proofs.Common.{refl, map, sym}
use Rattle.feature_graph_c.proofs.EntryLemmas.{entry_of}
use Rattle.feature_graph_c.specs.records.Edges.{weak_record}
use Rattle.feature_graph_c.proofs.Pushed.{entry_pushed}
use Rattle.feature_graph_c.proofs.records.edges.WeakLinksEntries.push.Goals as goal

pub returns : goal.returns
returns c =
    let entries = c.args.self.now.0.now.entries in
    let link = c.in-Some.link.now in
    let gate = c.in-Some.gate.now in
    entry_pushed c.push_weak_link.result (map weak_record entries) c.args.at (weak_record (link, gate)) (weak_record (link, gate)) c.args.bytes.now.items c.push_weak_link.new.bytes.items
    (entry_of weak_record entries c.args.at (link, gate) (sym c.in-Some.ensures.entry)) refl c.push_weak_link.ensures
