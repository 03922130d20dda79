use Rattle.std.proofs.Common.{◌≡◌, ◌+◌, ◌∙◌, ◌++◌, ap, arith, subst, sym, Some}
use Rattle.std.specs.Prelude.{slice_get}
use Rattle.guppy_packages.specs.Metadata.{package_table_of}
use Rattle.guppy_packages.specs.NamedFeature.{feature_table}
use Rattle.feature_links.specs.Links.{IsPackage}
use Rattle.feature_edges.specs.Nodes.{first_node}
use Rattle.feature_edges.specs.Warnings.{warnings_in}
use Rattle.feature_edges.specs.inner.Adds.{Adds}
use Rattle.feature_edges.specs.inner.Collects.{of_feature}
use Rattle.feature_edges.specs.inner.Parts.{IsOfFeature}
use Rattle.feature_edges.proofs.AddsLemmas.{Adds-permuted}
use Rattle.feature_edges.proofs.NodeKeys.{feature_keys}
use Rattle.feature_edges.proofs.NodeLemmas.{append-none}
use Rattle.feature_edges.proofs.PackageWarnings.{at_feature, count_of}
use Rattle.feature_edges.proofs.RequestLemmas.{mapped_at, mapped_length}
use Rattle.feature_edges.proofs.collect.features.collect_feature.Goals as goal

pub feature-from-requires : goal.feature-from-requires
feature-from-requires c =
    let table = package_table_of c.package.result in
    let is : IsPackage c.args.material.numbers.graph.now c.args.ix table = c.package.ensures.package in
    record { graph = c.package.ensures.graph; place = omega (arith, c.requires.place, count_of c.args.material.numbers.graph.now c.args.ix table is) }

pub returns-clause-keys : goal.returns-clause-keys
returns-clause-keys c =
    let t = c.args.material.numbers.graph.now in
    let p = c.package.result.package_ix in
    let table = package_table_of c.package.result in
    let feature = feature_table c.index-features-place.result in
    let is : IsPackage t c.args.ix table = c.package.ensures.package in
    let at : slice_get table.features c.args.place ≡ Some feature = mapped_at feature_table c.named_features-features.result.now table.features c.args.place c.index-features-place.result c.named_features-features.ensures (omega (arith, c.requires.place, count_of t c.args.ix table is, mapped_length feature_table c.named_features-features.result.now table.features c.named_features-features.ensures)) c.index-features-place.is in
    let start = c.clear.new.self.items in
    let before = c.push_node.new.collected.keys.items in
    let sorted = c.sort_keys.new.keys.items in
    let from : c.feature-from.result ≡ first_node t p + 1 + c.args.place = c.feature-from.ensures in
    let pushed : Adds (IsOfFeature t (first_node t p + 1 + c.args.place) p feature) start before = subst (λ z. Adds (IsOfFeature t z p feature) start before) from c.in_ok-push_node.ensures.keys in
    let mine : Adds (IsOfFeature t (first_node t c.args.ix + 1 + c.args.place) c.args.ix feature) start before = subst (λ z. Adds (IsOfFeature t (first_node t z + 1 + c.args.place) z feature) start before) c.package.ensures.number pushed in
    let all = subst (λ z. Adds (IsOfFeature t (first_node t c.args.ix + 1 + c.args.place) c.args.ix feature) z sorted) c.clear.ensures.items (Adds-permuted (IsOfFeature t (first_node t c.args.ix + 1 + c.args.place) c.args.ix feature) start before sorted mine c.sort_keys.ensures.permutation) in
    feature_keys t c.args.ix table is c.args.place feature sorted at all

pub returns-clause-items : goal.returns-clause-items
returns-clause-items c =
    let t = c.args.material.numbers.graph.now in
    let table = package_table_of c.package.result in
    let feature = feature_table c.index-features-place.result in
    let is : IsPackage t c.args.ix table = c.package.ensures.package in
    let at : slice_get table.features c.args.place ≡ Some feature = mapped_at feature_table c.named_features-features.result.now table.features c.args.place c.index-features-place.result c.named_features-features.ensures (omega (arith, c.requires.place, count_of t c.args.ix table is, mapped_length feature_table c.named_features-features.result.now table.features c.named_features-features.ensures)) c.index-features-place.is in
    let old = warnings_in c.args.collected.now.item_warnings in
    c.in_ok-push_node.ensures.of_items ∙ ap (λ z. old ++ of_feature t z table feature) c.package.ensures.number ∙ ap (λ z. old ++ z) (sym (at_feature t c.args.ix c.args.place table feature is at))

pub returns-clause-names : goal.returns-clause-names
returns-clause-names c = c.in_ok-push_node.ensures.of_names ∙ append-none (warnings_in c.args.collected.now.name_warnings)
