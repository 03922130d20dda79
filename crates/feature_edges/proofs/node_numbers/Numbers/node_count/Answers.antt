use Rattle.std.proofs.Common.{◌≡◌, ◌∙◌, ◌<◌, ◌+◌, ◌^◌, ap, sym, subst, Some, length}
use Rattle.std.specs.Prelude.{slice_get}
use Rattle.std.specs.String.{string_bytes}
use Rattle.std.proofs.lemmas.List.{length-map}
use Rattle.guppy_packages.specs.NamedFeature.{feature_table}
use Rattle.guppy_packages.specs.Metadata.{package_table_of, package_graph_of}
use Rattle.feature_links.specs.Links.{IsPackage}
use Rattle.feature_edges.specs.Nodes.{first_node, labels_of}
use Rattle.feature_edges.proofs.LabelLemmas.{package_there, labels_counted, labels_total}
use Rattle.feature_edges.proofs.node_numbers.Numbers.node_count.Goals as goal

pub returns-clause-count : goal.returns-clause-count
returns-clause-count c =
    let counted : 1 + length c.named_features-features.result.now + length c.optional_deps-names.result.now ≡ length (labels_of (package_table_of c.args.metadata)) = labels_counted (package_table_of c.args.metadata) (length c.named_features-features.result.now) (length c.optional_deps-names.result.now) (sym (length-map c.named_features-features.result.now feature_table) ∙ ap length c.named_features-features.ensures) (sym (length-map c.optional_deps-names.result.now string_bytes) ∙ ap length c.optional_deps-names.ensures) in
    counted

pub returns-clause-fits : goal.returns-clause-fits
returns-clause-fits c =
    let t = c.args.self.graph.now in
    let table = package_table_of c.args.metadata in
    let p = c.args.metadata.package_ix in
    let is : IsPackage t p table = package_there t (package_graph_of c.args.metadata) p table c.requires (subst (λ z. slice_get (package_graph_of c.args.metadata).packages z ≡ Some table) c.package_ix-ix.ensures.number c.package_ix-ix.ensures.package) in
    let counted : 1 + length c.named_features-features.result.now + length c.optional_deps-names.result.now ≡ length (labels_of (package_table_of c.args.metadata)) = labels_counted (package_table_of c.args.metadata) (length c.named_features-features.result.now) (length c.optional_deps-names.result.now) (sym (length-map c.named_features-features.result.now feature_table) ∙ ap length c.named_features-features.ensures) (sym (length-map c.optional_deps-names.result.now string_bytes) ∙ ap length c.optional_deps-names.ensures) in
    let total = labels_total t p table c.args.self.few_nodes is in
    subst (λ z. first_node t p + z < 2 ^ 64) (sym counted) total
