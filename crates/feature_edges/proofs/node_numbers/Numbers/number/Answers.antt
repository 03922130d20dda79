use Rattle.std.proofs.Common.{◌≡◌, ◌∙◌, ◌+◌, ap, arith}
use Rattle.guppy_packages.specs.Metadata.{package_table_of, package_graph_of}
use Rattle.feature_links.specs.Links.{IsPackage}
use Rattle.feature_edges.specs.Nodes.{first_node}
use Rattle.feature_edges.proofs.LabelLemmas.{package_there, first_within, first_is, number_fits}
use Rattle.feature_edges.proofs.node_numbers.Numbers.number.Goals as goal

pub first_of-requires : goal.first_of-requires
first_of-requires c =
    let t = c.args.self.graph.now in
    let table = package_table_of c.args.metadata in
    let p = c.package_ix-ix.result in
    let is : IsPackage t p table = package_there t (package_graph_of c.args.metadata) p table c.requires.graph c.package_ix-ix.ensures.package in
    first_within t p table c.args.self.firsts.now c.args.self.all_firsts is

pub overflow_add-result : goal.overflow_add-result
overflow_add-result c =
    let t = c.args.self.graph.now in
    let table = package_table_of c.args.metadata in
    let p = c.package_ix-ix.result in
    let is : IsPackage t p table = package_there t (package_graph_of c.args.metadata) p table c.requires.graph c.package_ix-ix.ensures.package in
    let first : c.first_of.result ≡ first_node t p = c.first_of.ensures ∙ first_is t p table c.args.self.firsts.now c.args.self.all_firsts is in
    let fits = number_fits t p c.args.place table c.args.self.few_nodes is c.requires.place in
    omega (arith, first, fits)

pub returns : goal.returns
returns c =
    let t = c.args.self.graph.now in
    let table = package_table_of c.args.metadata in
    let p = c.package_ix-ix.result in
    let is : IsPackage t p table = package_there t (package_graph_of c.args.metadata) p table c.requires.graph c.package_ix-ix.ensures.package in
    let first : c.first_of.result ≡ first_node t p = c.first_of.ensures ∙ first_is t p table c.args.self.firsts.now c.args.self.all_firsts is in
    ap (λ z. z + c.args.place) (first ∙ ap (first_node t) c.package_ix-ix.ensures.number)
