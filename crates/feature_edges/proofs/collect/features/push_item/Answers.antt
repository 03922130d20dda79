use Rattle.std.proofs.lemmas.Result.{on_ok_weaker}
use Rattle.guppy_packages.specs.Items.{feature_item, optional_item, slash_item, item_of}
use Rattle.guppy_packages.specs.Metadata.{package_table_of}
use Rattle.feature_edges.proofs.CollectLemmas.{item-read}
use Rattle.feature_edges.proofs.PushLemmas.{weak_item, strong_item}
use Rattle.feature_edges.proofs.collect.features.push_item.Goals as goal

pub returns-in-NamedFeature : goal.returns-in-NamedFeature
returns-in-NamedFeature c =
    on_ok_weaker c.push_feature_item.result
    (λ h. item-read c.args.input.numbers.graph.now c.args.from c.args.input.metadata.package_ix (package_table_of c.args.input.metadata) c.args.feature_name.now (feature_item c.in-NamedFeature.feature.now) (item_of c.args.item.now) c.args.collected.now c.push_feature_item.new.collected c.in-NamedFeature.ensures h)
    c.push_feature_item.ensures

pub returns-in-OptionalDependency : goal.returns-in-OptionalDependency
returns-in-OptionalDependency c =
    on_ok_weaker c.push_optional_item.result
    (λ h. item-read c.args.input.numbers.graph.now c.args.from c.args.input.metadata.package_ix (package_table_of c.args.input.metadata) c.args.feature_name.now (optional_item c.in-OptionalDependency.name.now) (item_of c.args.item.now) c.args.collected.now c.push_optional_item.new.collected c.in-OptionalDependency.ensures h)
    (c.push_optional_item.ensures c.args.feature_name.now)

pub returns-in_ok-push_beside-in-DependencyNamedFeature : goal.returns-in_ok-push_beside-in-DependencyNamedFeature
returns-in_ok-push_beside-in-DependencyNamedFeature c =
    let t = c.args.input.numbers.graph.now in
    let p = c.args.input.metadata.package_ix in
    let f = c.args.feature_name.now in
    let d = c.in-DependencyNamedFeature.dep_name.now in
    let g = c.in-DependencyNamedFeature.feature.now in
    let weak = c.in-DependencyNamedFeature.weak in
    let over = c.in_ok-push_over-in-DependencyNamedFeature.ensures in
    item-read t c.args.from p (package_table_of c.args.input.metadata) f (slash_item d g weak) (item_of c.args.item.now) c.args.collected.now _ c.in-DependencyNamedFeature.ensures
    (record {
      keys = strong_item t c.args.from p f d g weak c.args.collected.now.keys.items c.push_over.new.collected.keys.items c.push_beside.new.keys.items c.if-not-weak.true over.keys c.in_ok-push_beside-in-DependencyNamedFeature.ensures;
      of_items = over.of_items;
      of_names = over.of_names;
    })

pub returns-else-not-weak : goal.returns-else-not-weak
returns-else-not-weak c =
    let t = c.args.input.numbers.graph.now in
    let p = c.args.input.metadata.package_ix in
    let f = c.args.feature_name.now in
    let d = c.in-DependencyNamedFeature.dep_name.now in
    let g = c.in-DependencyNamedFeature.feature.now in
    let weak = c.in-DependencyNamedFeature.weak in
    let over = c.in_ok-push_over-in-DependencyNamedFeature.ensures in
    item-read t c.args.from p (package_table_of c.args.input.metadata) f (slash_item d g weak) (item_of c.args.item.now) c.args.collected.now c.push_over.new.collected c.in-DependencyNamedFeature.ensures
    (record {
      keys = weak_item t c.args.from p f d g weak c.args.collected.now.keys.items c.push_over.new.collected.keys.items c.if-not-weak.false over.keys;
      of_items = over.of_items;
      of_names = over.of_names;
    })
