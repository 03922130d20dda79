use Rattle.std.proofs.Common.{◌≡◌, ◌-◌, ◌<◌, ◌∙◌, sym, ap, length, arith}
use Rattle.std.specs.String.{string_bytes}
use Rattle.std.proofs.lemmas.List.{length-map}
use Rattle.guppy_packages.specs.NamedFeature.{feature_table}
use Rattle.guppy_packages.specs.Metadata.{package_table_of}
use Rattle.feature_edges.proofs.NodeLemmas.{length_labels}
use Rattle.feature_edges.proofs.NodeLabels.{read_map, named_at, optional_at}
use Rattle.feature_edges.proofs.node_numbers.label.Goals as goal

pub returns-then-place-features : goal.returns-then-place-features
returns-then-place-features c =
    let table = package_table_of c.args.metadata in
    let features = c.named_features-features.result.now in
    let feature = c.index-features-place.result in
    named_at table c.args.place (c.args.place - 1) (feature_table feature) c.name.result.now (omega arith)
    (read_map feature_table features table.features (c.args.place - 1) feature c.named_features-features.ensures (omega arith) c.index-features-place.is)
    c.name.ensures

pub returns-else-place-features : goal.returns-else-place-features
returns-else-place-features c =
    let table = package_table_of c.args.metadata in
    let features = c.named_features-features.result.now in
    let names = c.optional_deps-names.result.now in
    let name = c.index-names-place.result in
    let long : length features ≡ length table.features = sym (length-map features feature_table) ∙ ap length c.named_features-features.ensures in
    let many : length names ≡ length table.optional_names = sym (length-map names string_bytes) ∙ ap length c.optional_deps-names.ensures in
    let within : c.args.place - 1 - length features < length names = omega (arith, long, many, length_labels table, c.requires) in
    optional_at table c.args.place (c.args.place - 1 - length features) (string_bytes name) c.as_str.result.now (omega (arith, long))
    (read_map string_bytes names table.optional_names (c.args.place - 1 - length features) name c.optional_deps-names.ensures within c.index-names-place.is)
    c.as_str.ensures.value
