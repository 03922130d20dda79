use Rattle.std.proofs.Common.{◌≡◌, ◌∙◌, ◌++◌, ◌∷◌, [], ap, arith, get_or, length, Some}
use Rattle.std.specs.Prelude.{slice_get}
use Rattle.std.proofs.lemmas.Option.{slice_get-get_or}
use Rattle.std.proofs.lemmas.Result.{on_ok_weaker}
use Rattle.guppy_packages.specs.Metadata.{package_id_of, package_table_of}
use Rattle.feature_links.specs.NamedLinks.{link_numbers}
use Rattle.feature_edges.specs.Warnings.{warnings_in, missing_feature}
use Rattle.feature_edges.specs.inner.Collects.{lack_by}
use Rattle.feature_edges.proofs.AddsLemmas.{Adds-start}
use Rattle.feature_edges.proofs.CollectLemmas.{nothing, collects-start, items-turn}
use Rattle.feature_edges.proofs.PushLemmas.{OverAt, over_pushed, over_end, over_named, under_within}
use Rattle.feature_edges.proofs.WarningLemmas.{added-all, is_empty, not_empty, with_links, without_links}
use Rattle.feature_edges.proofs.collect.features.push_over.Goals as goal

pub loop-place-init : goal.loop-place-init
loop-place-init c = collects-start (OverAt c.args.input.numbers.graph.now c.args.from c.args.feature.now c.args.weak c.numbers_of-links.result.now) c.args.collected.now

pub push_over_link-requires : goal.push_over_link-requires
push_over_link-requires c =
    let t = c.args.input.numbers.graph.now in
    let p = c.args.input.metadata.package_ix in
    let d = c.args.dep_name.now in
    let links = c.numbers_of-links.result.now in
    let named : links ≡ link_numbers t p d = c.numbers_of-links.ensures ∙ c.args.input.named_links c.package_ix.result d ∙ ap (λ z. link_numbers t z d) c.package_ix.ensures.number in
    under_within t p d links named c.loop-place.place (get_or c.numbers_of-links.result.now c.loop-place.place 0) (slice_get-get_or c.numbers_of-links.result.now c.loop-place.place 0 (omega arith))

pub loop-place-preserved : goal.loop-place-preserved
loop-place-preserved c =
    let t = c.args.input.numbers.graph.now in
    let links = c.numbers_of-links.result.now in
    let k = get_or links c.loop-place.place 0 in
    let g = c.args.feature.now in
    let at : slice_get links c.loop-place.place ≡ Some k = slice_get-get_or c.numbers_of-links.result.now c.loop-place.place 0 (omega arith) in
    let this = c.in_ok-push_over_link.ensures in
    items-turn (OverAt t c.args.from g c.args.weak links) (lack_by t g) links c.loop-place.place k c.args.collected.now c.loop-place.collected c.push_over_link.new.collected at c.loop-place.invariant
    (record {
      keys = over_pushed t c.args.from c.loop-place.place k g c.args.weak links c.loop-place.collected.keys.items c.push_over_link.new.collected.keys.items at this.keys;
      of_items = this.of_items;
      of_names = this.of_names;
    })

pub returns-then-is_empty : goal.returns-then-is_empty
returns-then-is_empty c =
    let t = c.args.input.numbers.graph.now in
    let p = c.args.input.metadata.package_ix in
    let d = c.args.dep_name.now in
    let g = c.args.feature.now in
    let u = c.args.from in
    let weak = c.args.weak in
    let links = c.numbers_of-links.result.now in
    let before = c.args.collected.now in
    let named : links ≡ link_numbers t p d = c.numbers_of-links.ensures ∙ c.args.input.named_links c.package_ix.result d ∙ ap (λ z. link_numbers t z d) c.package_ix.ensures.number in
    let none : length links ≡ 0 = is_empty c.numbers_of-links.result.now c.is_empty.result c.is_empty.ensures c.if-is_empty.true in
    on_ok_weaker c.push_missing.result
    (λ told. record {
      keys = over_named t u p d g weak links before.keys.items before.keys.items named (over_end t u 0 g weak links before.keys.items before.keys.items (omega (arith, none)) (Adds-start (OverAt t u g weak links) before.keys.items));
      of_items =
          told ∙ ap (λ z. warnings_in before.item_warnings ++ missing_feature (package_id_of c.args.input.metadata) z ∷ []) c.in_ok-name.ensures.ok
          ∙ ap (λ z. warnings_in before.item_warnings ++ z) (without_links t (package_table_of c.args.input.metadata) d g p links named none);
      of_names = nothing (warnings_in before.name_warnings);
    })
    c.push_missing.ensures

pub returns : goal.returns
returns c =
    let t = c.args.input.numbers.graph.now in
    let p = c.args.input.metadata.package_ix in
    let d = c.args.dep_name.now in
    let g = c.args.feature.now in
    let links = c.numbers_of-links.result.now in
    let before = c.args.collected.now in
    let after = c.loop-place.collected in
    let n = c.loop-place.place in
    let named : links ≡ link_numbers t p d = c.numbers_of-links.ensures ∙ c.args.input.named_links c.package_ix.result d ∙ ap (λ z. link_numbers t z d) c.package_ix.ensures.number in
    let all = c.loop-place.invariant in
    record {
      keys = over_named t c.args.from p d g c.args.weak links before.keys.items after.keys.items named (over_end t c.args.from n g c.args.weak links before.keys.items after.keys.items (omega arith) all.keys);
      of_items =
          added-all (lack_by t g) links n (warnings_in before.item_warnings) (warnings_in after.item_warnings) (omega arith) all.of_items
          ∙ ap (λ z. warnings_in before.item_warnings ++ z) (with_links t (package_table_of c.args.input.metadata) d g p links named (omega (arith, not_empty c.numbers_of-links.result.now c.is_empty.result c.is_empty.ensures c.if-is_empty.false)));
      of_names = all.of_names;
    }
