use Rattle.std.proofs.Common.{◌≡◌, sym, subst, arith, Some, refl}
use Rattle.std.specs.Prelude.{slice_get}
use Rattle.guppy_packages.specs.Metadata.{package_table_of, package_graph_of}
use Rattle.feature_labels.specs.Names.LabelName.{base}
use Rattle.feature_links.specs.Links.{IsPackage}
use Rattle.feature_edges.specs.Nodes.{NodeAt}
use Rattle.feature_edges.proofs.LabelLemmas.{package_there, base_place}
use Rattle.feature_edges.proofs.Places.{node_there}
use Rattle.feature_edges.proofs.node_numbers.Numbers.base.Goals as goal

pub number-requires : goal.number-requires
number-requires c = record { graph = c.requires; place = base_place (package_table_of c.args.metadata) }

pub returns-clause-number : goal.returns-clause-number
returns-clause-number c = omega (arith, c.number.ensures)

pub returns-clause-node : goal.returns-clause-node
returns-clause-node c =
    let t = c.args.self.graph.now in
    let table = package_table_of c.args.metadata in
    let p = c.args.metadata.package_ix in
    let is : IsPackage t p table = package_there t (package_graph_of c.args.metadata) p table c.requires (subst (λ z. slice_get (package_graph_of c.args.metadata).packages z ≡ Some table) c.package_ix-ix.ensures.number c.package_ix-ix.ensures.package) in
    subst (λ n. NodeAt t n p base) (sym c.number.ensures) (node_there t p 0 table base is refl)
