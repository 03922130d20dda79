use Rattle.std.proofs.Common.{◌≡◌, ◌+◌, ◌++◌, ◌∙◌, ap, arith, length, refl, subst, sym}
use Rattle.guppy_packages.specs.Metadata.{package_table_of}
use Rattle.guppy_packages.specs.NamedFeature.{feature_table}
use Rattle.feature_links.specs.Links.{IsPackage}
use Rattle.feature_edges.specs.Nodes.{first_node}
use Rattle.feature_edges.specs.Warnings.{warnings_in}
use Rattle.feature_edges.specs.inner.Collects.{of_feature}
use Rattle.feature_edges.specs.inner.Keys.{AreLeast}
use Rattle.feature_edges.specs.inner.Made.{AreMadeBefore, AreWholeKeys}
use Rattle.feature_edges.proofs.CollectLemmas.{nothing}
use Rattle.feature_edges.proofs.NodeLabels.{element_within}
use Rattle.feature_edges.proofs.PackageWarnings.{at_feature, count_of, of_table}
use Rattle.feature_edges.proofs.Places.{got_same}
use Rattle.feature_edges.proofs.RequestLemmas.{mapped_length}
use Rattle.feature_edges.proofs.SourceLemmas.{kept_next, whole_keys}
use Rattle.feature_edges.proofs.WarningLemmas.{added-all, added-next}
use Rattle.feature_edges.proofs.table.MadeEdges.add_features.Goals as goal

pub loop-place-init : goal.loop-place-init
loop-place-init c = record {
  made = subst (λ z. AreMadeBefore c.args.material.numbers.graph.now z c.args.self.now) (omega arith) c.requires.made;
  items = λ table is. nothing (warnings_in c.args.room.now.collected.item_warnings);
  names = refl;
  later = refl;
}

pub collect_feature-requires-clause-place : goal.collect_feature-requires-clause-place
collect_feature-requires-clause-place c =
    let t = c.args.material.numbers.graph.now in
    let table = package_table_of c.package.result in
    let is : IsPackage t c.args.ix table = c.package.ensures.package in
    omega (arith, count_of t c.args.ix table is, mapped_length feature_table c.named_features-features.result.now table.features c.named_features-features.ensures)

pub add_all-requires-clause-keys : goal.add_all-requires-clause-keys
add_all-requires-clause-keys c =
    let t = c.args.material.numbers.graph.now in
    let f = first_node t c.args.ix in
    subst (AreWholeKeys t) (sym c.deref.ensures.value) (whole_keys t (f + 1 + c.loop-place.place) (f + 1 + (c.loop-place.place + 1)) c.collect_feature.new.collected.keys.items c.in_ok-collect_feature.ensures.ordered c.in_ok-collect_feature.ensures.keys)

pub add_all-requires-clause-made : goal.add_all-requires-clause-made
add_all-requires-clause-made c = let made = c.loop-place.invariant.made in (made.kept, made.made)

pub loop-place-preserved : goal.loop-place-preserved
loop-place-preserved c =
    let t = c.args.material.numbers.graph.now in
    let p = c.args.ix in
    let k = c.loop-place.place in
    let f = first_node t p in
    let all = c.loop-place.invariant in
    let more = c.in_ok-add_all.ensures in
    let keys = c.collect_feature.new.collected.keys.items in
    record {
      made = record {
        kept = all.made.kept ++ more.0;
        is_kept = kept_next t (f + 1 + k) (f + 1 + (k + 1)) all.made.kept keys more.0 (omega arith) all.made.is_kept c.in_ok-collect_feature.ensures.keys (subst (λ z. AreLeast z more.0) c.deref.ensures.value more.1);
        made = more.2 all.made.kept all.made.made;
      };
      items = λ table is.
          let mine = package_table_of c.package.result in
          let same : table ≡ mine = got_same table mine (sym is ∙ c.package.ensures.package) in
          let long = mapped_length feature_table c.named_features-features.result.now mine.features c.named_features-features.ensures in
          let feature = element_within table.features k (omega (arith, ap (λ z. length z.features) same, long)) in
          added-next (of_feature t p table) table.features k feature.0 (warnings_in c.args.room.now.collected.item_warnings) (warnings_in c.loop-place.room.collected.item_warnings) (warnings_in c.collect_feature.new.collected.item_warnings) feature.1 (all.items table is)
          (c.in_ok-collect_feature.ensures.items ∙ ap (λ z. warnings_in c.loop-place.room.collected.item_warnings ++ z) (at_feature t p k table feature.0 is feature.1));
      names = c.in_ok-collect_feature.ensures.names ∙ all.names;
      later = all.later;
    }

pub returns-clause-made : goal.returns-clause-made
returns-clause-made c =
    let t = c.args.material.numbers.graph.now in
    let p = c.args.ix in
    let table = package_table_of c.package.result in
    let is : IsPackage t p table = c.package.ensures.package in
    let long = mapped_length feature_table c.named_features-features.result.now table.features c.named_features-features.ensures in
    subst (λ z. AreMadeBefore t z c.loop-place.self) (omega (arith, count_of t p table is, long)) c.loop-place.invariant.made

pub returns-clause-items : goal.returns-clause-items
returns-clause-items c =
    let t = c.args.material.numbers.graph.now in
    let p = c.args.ix in
    let table = package_table_of c.package.result in
    let is : IsPackage t p table = c.package.ensures.package in
    let long = mapped_length feature_table c.named_features-features.result.now table.features c.named_features-features.ensures in
    added-all (of_feature t p table) table.features c.loop-place.place (warnings_in c.args.room.now.collected.item_warnings) (warnings_in c.loop-place.room.collected.item_warnings) (omega (arith, long)) (c.loop-place.invariant.items table is)
    ∙ ap (λ z. warnings_in c.args.room.now.collected.item_warnings ++ z) (sym (of_table t p table is))

pub returns-clause-names : goal.returns-clause-names
returns-clause-names c = c.loop-place.invariant.names
