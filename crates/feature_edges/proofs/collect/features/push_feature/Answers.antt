use Rattle.std.proofs.Common.{◌≡◌, ◌++◌, subst, arith}
use Rattle.guppy_packages.specs.Items.{item_of}
use Rattle.guppy_packages.specs.Metadata.{package_table_of}
use Rattle.guppy_packages.specs.NamedFeature.{feature_table}
use Rattle.feature_edges.specs.Warnings.{of_item, warnings_in}
use Rattle.feature_edges.specs.inner.Parts.{IsOfItemAt}
use Rattle.feature_edges.proofs.CollectLemmas.{collects-start, items-turn}
use Rattle.feature_edges.proofs.PushLemmas.{item_at, items_within, Adds-all}
use Rattle.feature_edges.proofs.WarningLemmas.{added-all}
use Rattle.feature_edges.proofs.collect.features.push_feature.Goals as goal

pub loop-ix-init : goal.loop-ix-init
loop-ix-init c = collects-start (IsOfItemAt c.args.input.numbers.graph.now c.args.from c.args.input.metadata.package_ix (feature_table c.args.feature.now)) c.args.collected.now

pub loop-ix-preserved : goal.loop-ix-preserved
loop-ix-preserved c =
    let t = c.args.input.numbers.graph.now in
    let p = c.args.input.metadata.package_ix in
    let u = c.args.from in
    let table = package_table_of c.args.input.metadata in
    let feature = feature_table c.args.feature.now in
    let text = c.item.result.now in
    let before = c.loop-ix.collected in
    let after = c.push_item.new.collected in
    let this = c.in_ok-push_item.ensures in
    items-turn (IsOfItemAt t u p feature) (λ text. of_item t p table feature.name (item_of text)) feature.items c.loop-ix.ix text c.args.collected.now before after c.item.ensures c.loop-ix.invariant
    (record {
      keys = item_at t u p c.loop-ix.ix feature text c.name.result.now before.keys.items after.keys.items c.item.ensures c.name.ensures this.keys;
      of_items = subst (λ z. warnings_in after.item_warnings ≡ warnings_in before.item_warnings ++ of_item t p table z (item_of text)) c.name.ensures this.of_items;
      of_names = this.of_names;
    })

pub returns : goal.returns
returns c =
    let t = c.args.input.numbers.graph.now in
    let p = c.args.input.metadata.package_ix in
    let u = c.args.from in
    let feature = feature_table c.args.feature.now in
    let all = c.loop-ix.invariant in
    record {
      keys = Adds-all (IsOfItemAt t u p feature) c.loop-ix.ix c.args.collected.now.keys.items c.loop-ix.collected.keys.items (λ k x h. let l = items_within t u p feature k x h in omega (arith, l)) all.keys;
      of_items = added-all (λ text. of_item t p (package_table_of c.args.input.metadata) feature.name (item_of text)) feature.items c.loop-ix.ix (warnings_in c.args.collected.now.item_warnings) (warnings_in c.loop-ix.collected.item_warnings) (omega arith) all.of_items;
      of_names = all.of_names;
    }
