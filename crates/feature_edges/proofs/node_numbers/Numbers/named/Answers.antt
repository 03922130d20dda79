use Rattle.std.proofs.Common.{◌≡◌, ◌∙◌, ◌+◌, ap, sym, subst, arith, Some, is_some}
use Rattle.std.specs.Prelude.{slice_get}
use Rattle.std.specs.Str.{bytes_eq}
use Rattle.guppy_packages.specs.Metadata.{package_table_of, package_graph_of}
use Rattle.feature_links.specs.Links.{IsPackage}
use Rattle.feature_edges.proofs.LabelLemmas.{package_there, named_place, place_fits, named_found, named_missing}
use Rattle.guppy_packages.proofs.Lists.{is_some-position}
use Rattle.feature_edges.proofs.node_numbers.Numbers.named.Goals as goal

pub overflow_add-place : goal.overflow_add-place
overflow_add-place c =
    let t = c.args.self.graph.now in
    let table = package_table_of c.args.metadata in
    let p = c.args.metadata.package_ix in
    let is : IsPackage t p table = package_there t (package_graph_of c.args.metadata) p table c.requires (subst (λ z. slice_get (package_graph_of c.args.metadata).packages z ≡ Some table) c.package_ix-ix.ensures.number c.package_ix-ix.ensures.package) in
    let fits = place_fits t p (1 + c.in-Some.place) table c.args.self.few_nodes is (named_place table c.args.name.now c.in-Some.place (sym c.in-Some.ensures)) in
    omega (arith, fits)

pub number-requires : goal.number-requires
number-requires c = record { graph = c.requires; place = named_place (package_table_of c.args.metadata) c.args.name.now c.in-Some.place (sym c.in-Some.ensures) }

pub returns-in-Some-clause-node : goal.returns-in-Some-clause-node
returns-in-Some-clause-node c =
    let t = c.args.self.graph.now in
    let table = package_table_of c.args.metadata in
    let p = c.args.metadata.package_ix in
    let is : IsPackage t p table = package_there t (package_graph_of c.args.metadata) p table c.requires (subst (λ z. slice_get (package_graph_of c.args.metadata).packages z ≡ Some table) c.package_ix-ix.ensures.number c.package_ix-ix.ensures.package) in
    named_found t p table is c.facts.ensures c.args.name.now c.in-Some.place c.number.result (sym c.in-Some.ensures) c.number.ensures

pub returns-in-None-clause-node : goal.returns-in-None-clause-node
returns-in-None-clause-node c =
    let t = c.args.self.graph.now in
    let table = package_table_of c.args.metadata in
    let p = c.args.metadata.package_ix in
    let is : IsPackage t p table = package_there t (package_graph_of c.args.metadata) p table c.requires (subst (λ z. slice_get (package_graph_of c.args.metadata).packages z ≡ Some table) c.package_ix-ix.ensures.number c.package_ix-ix.ensures.package) in
    named_missing t p table is c.args.name.now (sym c.in-None.ensures)

pub returns-in-Some-clause-found : goal.returns-in-Some-clause-found
returns-in-Some-clause-found c = ap is_some c.in-Some.ensures ∙ is_some-position (λ f. bytes_eq c.args.name.now f.name) (package_table_of c.args.metadata).features

pub returns-in-None-clause-found : goal.returns-in-None-clause-found
returns-in-None-clause-found c = ap is_some c.in-None.ensures ∙ is_some-position (λ f. bytes_eq c.args.name.now f.name) (package_table_of c.args.metadata).features
