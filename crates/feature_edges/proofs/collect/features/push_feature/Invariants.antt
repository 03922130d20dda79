use Rattle.std.proofs.Common.{[], take}
use Rattle.std.specs.Prelude.{flat_map}
use Rattle.guppy_packages.specs.Items.{item_of}
use Rattle.guppy_packages.specs.Metadata.{package_table_of}
use Rattle.guppy_packages.specs.NamedFeature.{feature_table}
use Rattle.feature_edges.specs.Warnings.{of_item}
use Rattle.feature_edges.specs.inner.Adds.{Below}
use Rattle.feature_edges.specs.inner.Collects.{Collects}
use Rattle.feature_edges.specs.inner.Parts.{IsOfItemAt}
use Rattle.feature_edges.proofs.collect.features.push_feature.Given as goal

abbrev pub invariant-loop-ix : goal.invariant-loop-ix
invariant-loop-ix l =
    let t = l.input.numbers.graph.now in
    let p = l.input.metadata.package_ix in
    let feature = feature_table l.feature in
    Collects (Below l.ix (IsOfItemAt t l.from p feature)) (flat_map (λ text. of_item t p (package_table_of l.input.metadata) feature.name (item_of text)) (take l.ix feature.items)) [] l.initial.collected l.collected
