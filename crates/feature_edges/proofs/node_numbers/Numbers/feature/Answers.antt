use Rattle.std.proofs.Common.{◌≡◌, ◌+◌, subst, arith, Some}
use Rattle.std.specs.Prelude.{slice_get}
use Rattle.guppy_packages.specs.Metadata.{package_table_of, package_graph_of}
use Rattle.feature_links.specs.Links.{IsPackage}
use Rattle.feature_edges.proofs.LabelLemmas.{package_there, place_fits, feature_below}
use Rattle.feature_edges.proofs.node_numbers.Numbers.feature.Goals as goal

pub overflow_add-place : goal.overflow_add-place
overflow_add-place c =
    let t = c.args.self.graph.now in
    let table = package_table_of c.args.metadata in
    let p = c.args.metadata.package_ix in
    let is : IsPackage t p table = package_there t (package_graph_of c.args.metadata) p table c.requires.graph (subst (λ z. slice_get (package_graph_of c.args.metadata).packages z ≡ Some table) c.package_ix-ix.ensures.number c.package_ix-ix.ensures.package) in
    let fits = place_fits t p (1 + c.args.place) table c.args.self.few_nodes is (feature_below table c.args.place c.requires.place) in
    omega (arith, fits)

pub number-requires : goal.number-requires
number-requires c = record { graph = c.requires.graph; place = feature_below (package_table_of c.args.metadata) c.args.place c.requires.place }
