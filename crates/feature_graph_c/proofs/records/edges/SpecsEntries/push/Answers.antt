use Rattle.std.proofs.Common.{◌∙◌, ap, sym, map}
use Rattle.feature_graph_c.specs.binary.Records.{text}
use Rattle.guppy_packages.specs.Platform.{spec_text}
use Rattle.feature_graph_c.proofs.Pushed.{entry_pushed, two_maps}
use Rattle.feature_graph_c.proofs.records.edges.SpecsEntries.push.Goals as goal

pub returns : goal.returns
returns c =
    let xs = c.args.self.now.0.now in
    let x = c.index-self-at.result in
    entry_pushed c.push_text.result (map text (map spec_text xs)) c.args.at (text c.text.result.now) (text (spec_text x)) c.args.bytes.now.items c.push_text.new.bytes.items
    (two_maps text spec_text xs c.args.at x c.requires c.index-self-at.is) (ap text (c.text.ensures ∙ ap spec_text (sym c.index-self-at.is))) c.push_text.ensures
