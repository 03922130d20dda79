use Rattle.std.proofs.Common.{ap, get_or, map, sym}
use Rattle.guppy_packages.specs.NamedFeature.{feature_table}
use Rattle.feature_graph_c.specs.records.Packages.{feature_record}
use Rattle.feature_graph_c.proofs.Pushed.{entry_pushed, two_maps}
use Rattle.feature_graph_c.proofs.records.packages.FeaturesEntries.push.Goals as goal

pub returns : goal.returns
returns c =
    let xs = c.args.self.now.0.now in
    let x = c.index-self-at.result in
    entry_pushed c.push_feature.result (map feature_record (map feature_table xs)) c.args.at (feature_record (feature_table (get_or xs c.args.at x))) (feature_record (feature_table x)) c.args.bytes.now.items c.push_feature.new.bytes.items
    (two_maps feature_record feature_table xs c.args.at x c.requires c.index-self-at.is) (ap (λ z. feature_record (feature_table z)) (sym c.index-self-at.is)) c.push_feature.ensures
