use Rattle.std.proofs.lemmas.Result.{on_ok_weaker}
use Rattle.guppy_packages.specs.NamedFeature.{feature_table}
use Rattle.feature_edges.proofs.PushLemmas.{first_pushed, of_feature}
use Rattle.feature_edges.proofs.collect.features.push_node.Goals as goal

pub returns : goal.returns
returns c =
    let t = c.args.input.numbers.graph.now in
    let p = c.args.input.metadata.package_ix in
    let u = c.args.from in
    let feature = feature_table c.args.feature.now in
    let start = c.args.collected.now.keys.items in
    let first = c.push_to.new.keys.items in
    let after = c.push_feature.new.collected.keys.items in
    on_ok_weaker c.push_feature.result
    (λ h. record {
      keys = of_feature t u p c.base-base.result feature start first after c.base-base.ensures.number (first_pushed c.base-base.result u start first c.in_ok-push_to.ensures) h.keys;
      of_items = h.of_items;
      of_names = h.of_names;
    })
    c.push_feature.ensures
