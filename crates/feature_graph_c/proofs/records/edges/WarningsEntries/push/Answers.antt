use Rattle.std.proofs.Common.{ap, get_or, map, sym}
use Rattle.feature_core.specs.Warnings.{warning_of}
use Rattle.feature_graph_c.specs.records.Edges.{warning_record}
use Rattle.feature_graph_c.proofs.Pushed.{entry_pushed, two_maps}
use Rattle.feature_graph_c.proofs.records.edges.WarningsEntries.push.Goals as goal

pub returns : goal.returns
returns c =
    let xs = c.args.self.now.0.now in
    let x = c.index-self-at.result in
    entry_pushed c.push_warning.result (map warning_record (map warning_of xs)) c.args.at (warning_record (warning_of (get_or xs c.args.at x))) (warning_record (warning_of x)) c.args.bytes.now.items c.push_warning.new.bytes.items
    (two_maps warning_record warning_of xs c.args.at x c.requires c.index-self-at.is) (ap (λ z. warning_record (warning_of z)) (sym c.index-self-at.is)) c.push_warning.ensures
