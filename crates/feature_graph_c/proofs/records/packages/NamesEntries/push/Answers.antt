use Rattle.std.proofs.Common.{◌∙◌, ap, sym, map, string_bytes}
use Rattle.feature_graph_c.specs.binary.Records.{text}
use Rattle.feature_graph_c.proofs.Pushed.{entry_pushed, two_maps}
use Rattle.feature_graph_c.proofs.records.packages.NamesEntries.push.Goals as goal

pub returns : goal.returns
returns c =
    let xs = c.args.self.now.0.now in
    let x = c.index-self-at.result in
    entry_pushed c.push_text.result (map text (map string_bytes xs)) c.args.at (text c.as_str.result.now) (text (string_bytes x)) c.args.bytes.now.items c.push_text.new.bytes.items
    (two_maps text string_bytes xs c.args.at x c.requires c.index-self-at.is) (ap text (c.as_str.ensures.value ∙ ap string_bytes (sym c.index-self-at.is))) c.push_text.ensures
