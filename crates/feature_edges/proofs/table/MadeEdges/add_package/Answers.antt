use Rattle.std.proofs.Common.{◌≡◌, ◌+◌, ◌++◌, ◌∙◌, ap, arith, refl, subst, sym}
use Rattle.feature_links.specs.Links.{IsPackage}
use Rattle.feature_edges.specs.Nodes.{first_node, features_in}
use Rattle.feature_edges.specs.Warnings.{warnings_in}
use Rattle.feature_edges.specs.inner.Keys.{AreLeast}
use Rattle.feature_edges.specs.inner.Made.{AreWholeKeys}
use Rattle.feature_edges.proofs.NodeLabels.{element_within}
use Rattle.feature_edges.proofs.NodeKeys.{next_first}
use Rattle.feature_edges.proofs.NodeLemmas.{append-none, length_labels}
use Rattle.feature_edges.proofs.PackageWarnings.{count_of, of_table, warnings-next}
use Rattle.feature_edges.proofs.SourceLemmas.{kept_next, whole_keys}
use Rattle.feature_edges.proofs.table.MadeEdges.add_package.Goals as goal

pub add_all-requires-clause-keys : goal.add_all-requires-clause-keys
add_all-requires-clause-keys c =
    let t = c.args.material.numbers.graph.now in
    let f = first_node t c.args.ix in
    subst (AreWholeKeys t) (sym c.deref.ensures.value) (whole_keys t f (f + 1) c.collect_around.new.collected.keys.items c.in_ok-collect_around.ensures.base_ordered c.in_ok-collect_around.ensures.base)

pub add_all-requires-clause-made : goal.add_all-requires-clause-made
add_all-requires-clause-made c = (c.requires.made.kept, c.requires.made.made)

pub add_all-requires-2-clause-made : goal.add_all-requires-2-clause-made
add_all-requires-2-clause-made c = let made = c.in_ok-add_features.ensures.made in (made.kept, made.made)

pub add_features-requires-clause-made : goal.add_features-requires-clause-made
add_features-requires-clause-made c =
    let t = c.args.material.numbers.graph.now in
    let f = first_node t c.args.ix in
    let made = c.requires.made in
    let more = c.in_ok-add_all.ensures in
    record {
      kept = made.kept ++ more.0;
      is_kept = kept_next t f (f + 1) made.kept c.collect_around.new.collected.keys.items more.0 (omega arith) made.is_kept c.in_ok-collect_around.ensures.base (subst (λ z. AreLeast z more.0) c.deref.ensures.value more.1);
      made = more.2 made.kept made.made;
    }

pub add_all-requires-2-clause-keys : goal.add_all-requires-2-clause-keys
add_all-requires-2-clause-keys c =
    let t = c.args.material.numbers.graph.now in
    let p = c.args.ix in
    let later = c.collect_around.new.later.items in
    let same : c.deref-2.result.now ≡ later = c.deref-2.ensures.value ∙ ap (λ z. z.items) c.add_features.ensures.later in
    subst (AreWholeKeys t) (sym same) (whole_keys t (first_node t p + 1 + features_in t p) (first_node t (p + 1)) later c.in_ok-collect_around.ensures.later_ordered c.in_ok-collect_around.ensures.later)

pub returns-clause-made : goal.returns-clause-made
returns-clause-made c =
    let t = c.args.material.numbers.graph.now in
    let p = c.args.ix in
    let table = element_within t.packages p c.requires.package in
    let is : IsPackage t p table.0 = table.1 in
    let later = c.collect_around.new.later.items in
    let same : c.deref-2.result.now ≡ later = c.deref-2.ensures.value ∙ ap (λ z. z.items) c.add_features.ensures.later in
    let made = c.in_ok-add_features.ensures.made in
    let more = c.in_ok-add_all-2.ensures in
    record {
      kept = made.kept ++ more.0;
      is_kept = kept_next t (first_node t p + 1 + features_in t p) (first_node t (p + 1)) made.kept later more.0 (omega (arith, next_first t p table.0 is, count_of t p table.0 is, length_labels table.0)) made.is_kept c.in_ok-collect_around.ensures.later (subst (λ z. AreLeast z more.0) same more.1);
      made = more.2 made.kept made.made;
    }

pub returns-clause-warnings : goal.returns-clause-warnings
returns-clause-warnings c =
    let t = c.args.material.numbers.graph.now in
    let p = c.args.ix in
    let table = element_within t.packages p c.requires.package in
    let is : IsPackage t p table.0 = table.1 in
    let start = c.args.room.now.collected in
    let middle = c.collect_around.new.collected in
    let end = c.add_features.new.room.collected in
    let around = c.in_ok-collect_around.ensures in
    let features = c.in_ok-add_features.ensures in
    let below = c.requires.warnings in
    let all = warnings-next t p p table.0 start middle end c.facts.ensures is refl
    (record { of_items = below.of_items; of_names = below.of_names }) around.items around.names
    (features.items ∙ ap (λ z. warnings_in middle.item_warnings ++ z) (of_table t p table.0 is)) (features.names ∙ sym (append-none (warnings_in middle.name_warnings))) in
    record { of_items = all.of_items; of_names = all.of_names }
