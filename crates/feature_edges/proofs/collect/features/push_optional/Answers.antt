use Rattle.std.proofs.Common.{◌+◌, length, arith}
use Rattle.std.proofs.lemmas.Result.{on_ok_weaker}
use Rattle.guppy_packages.specs.Metadata.{package_table_of}
use Rattle.guppy_packages.specs.NamedFeature.{feature_table}
use Rattle.feature_edges.proofs.NodeLemmas.{length_labels}
use Rattle.feature_edges.proofs.PushLemmas.{of_optional}
use Rattle.feature_edges.proofs.RequestLemmas.{mapped_length}
use Rattle.feature_edges.proofs.collect.features.push_optional.Goals as goal

pub push_to_first-requires : goal.push_to_first-requires
push_to_first-requires c =
    let table = package_table_of c.args.input.metadata in
    let long = mapped_length feature_table c.named_features.result.now table.features c.named_features.ensures in
    record {
      some = omega arith;
      ascends = omega (arith, long, c.node_count.ensures.count, length_labels table);
      fits = omega (arith, c.node_count.ensures.fits, c.base.ensures.number);
    }

pub returns : goal.returns
returns c =
    let t = c.args.input.numbers.graph.now in
    let p = c.args.input.metadata.package_ix in
    let table = package_table_of c.args.input.metadata in
    let long = mapped_length feature_table c.named_features.result.now table.features c.named_features.ensures in
    let start = 1 + length c.named_features.result.now in
    on_ok_weaker c.push_to_first.result
    (λ h. of_optional t p start c.base.result c.node_count.result table c.args.keys.now.items c.push_to_first.new.keys.items (omega (arith, long)) c.base.ensures.number c.node_count.ensures.count h)
    c.push_to_first.ensures
