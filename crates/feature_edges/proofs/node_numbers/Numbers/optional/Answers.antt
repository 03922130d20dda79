use Rattle.std.proofs.Common.{◌≡◌, ◌∙◌, ◌+◌, ap, sym, subst, arith, Some, is_some, length}
use Rattle.std.specs.Prelude.{slice_get}
use Rattle.std.specs.Str.{bytes_eq}
use Rattle.std.proofs.lemmas.List.{length-map}
use Rattle.guppy_packages.specs.NamedFeature.{feature_table}
use Rattle.guppy_packages.specs.Metadata.{package_table_of, package_graph_of}
use Rattle.feature_links.specs.Links.{IsPackage}
use Rattle.feature_edges.specs.Nodes.{first_node}
use Rattle.feature_edges.proofs.LabelLemmas.{package_there, optional_place_below, place_fits, optional_found, optional_missing}
use Rattle.guppy_packages.proofs.Lists.{is_some-position}
use Rattle.feature_edges.proofs.node_numbers.Numbers.optional.Goals as goal

pub overflow_add-features : goal.overflow_add-features
overflow_add-features c =
    let t = c.args.self.graph.now in
    let table = package_table_of c.args.metadata in
    let p = c.args.metadata.package_ix in
    let is : IsPackage t p table = package_there t (package_graph_of c.args.metadata) p table c.requires (subst (λ z. slice_get (package_graph_of c.args.metadata).packages z ≡ Some table) c.package_ix-ix.ensures.number c.package_ix-ix.ensures.package) in
    let features : length c.named_features-features.result.now ≡ length table.features = sym (length-map c.named_features-features.result.now feature_table) ∙ ap length c.named_features-features.ensures in
    let fits = place_fits t p (1 + length c.named_features-features.result.now + c.in-Some.place) table c.args.self.few_nodes is (optional_place_below table c.args.name.now (length c.named_features-features.result.now) c.in-Some.place features (sym c.in-Some.ensures)) in
    omega (arith, fits)

pub overflow_add-features-in-Some : goal.overflow_add-features-in-Some
overflow_add-features-in-Some c =
    let t = c.args.self.graph.now in
    let table = package_table_of c.args.metadata in
    let p = c.args.metadata.package_ix in
    let is : IsPackage t p table = package_there t (package_graph_of c.args.metadata) p table c.requires (subst (λ z. slice_get (package_graph_of c.args.metadata).packages z ≡ Some table) c.package_ix-ix.ensures.number c.package_ix-ix.ensures.package) in
    let features : length c.named_features-features.result.now ≡ length table.features = sym (length-map c.named_features-features.result.now feature_table) ∙ ap length c.named_features-features.ensures in
    let fits = place_fits t p (1 + (length c.named_features-features.result.now) + c.in-Some.place) table c.args.self.few_nodes is (optional_place_below table c.args.name.now (length c.named_features-features.result.now) c.in-Some.place features (sym c.in-Some.ensures)) in
    omega (arith, fits)

pub number-requires : goal.number-requires
number-requires c =
    let table = package_table_of c.args.metadata in
    let features : length c.named_features-features.result.now ≡ length table.features = sym (length-map c.named_features-features.result.now feature_table) ∙ ap length c.named_features-features.ensures in
    record { graph = c.requires; place = optional_place_below table c.args.name.now (length c.named_features-features.result.now) c.in-Some.place features (sym c.in-Some.ensures) }

pub returns-in-Some-clause-node : goal.returns-in-Some-clause-node
returns-in-Some-clause-node c =
    let t = c.args.self.graph.now in
    let table = package_table_of c.args.metadata in
    let p = c.args.metadata.package_ix in
    let is : IsPackage t p table = package_there t (package_graph_of c.args.metadata) p table c.requires (subst (λ z. slice_get (package_graph_of c.args.metadata).packages z ≡ Some table) c.package_ix-ix.ensures.number c.package_ix-ix.ensures.package) in
    let features : length c.named_features-features.result.now ≡ length table.features = sym (length-map c.named_features-features.result.now feature_table) ∙ ap length c.named_features-features.ensures in
    optional_found t p table is c.facts.ensures c.args.name.now c.in-Some.place c.number.result (sym c.in-Some.ensures) (c.number.ensures ∙ ap (λ z. first_node t p + (1 + z + c.in-Some.place)) features)

pub returns-in-None-clause-node : goal.returns-in-None-clause-node
returns-in-None-clause-node c =
    let t = c.args.self.graph.now in
    let table = package_table_of c.args.metadata in
    let p = c.args.metadata.package_ix in
    let is : IsPackage t p table = package_there t (package_graph_of c.args.metadata) p table c.requires (subst (λ z. slice_get (package_graph_of c.args.metadata).packages z ≡ Some table) c.package_ix-ix.ensures.number c.package_ix-ix.ensures.package) in
    optional_missing t p table is c.args.name.now (sym c.in-None.ensures)

pub returns-in-Some-clause-found : goal.returns-in-Some-clause-found
returns-in-Some-clause-found c = ap is_some c.in-Some.ensures ∙ is_some-position (bytes_eq c.args.name.now) (package_table_of c.args.metadata).optional_names

pub returns-in-None-clause-found : goal.returns-in-None-clause-found
returns-in-None-clause-found c = ap is_some c.in-None.ensures ∙ is_some-position (bytes_eq c.args.name.now) (package_table_of c.args.metadata).optional_names
