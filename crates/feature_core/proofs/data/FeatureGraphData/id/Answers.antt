use Rattle.std.proofs.Common.{◌≡◌, ◌∙◌, sym, ap, subst}
use Rattle.std.specs.Prelude.{slice_index}
use Rattle.feature_edges.specs.guppy_packages.Metadata.{package_table_of}
use Rattle.feature_edges.specs.feature_labels.Names.{label_of, id_of}
use Rattle.feature_edges.specs.Nodes.{NodeAt}
use Rattle.feature_core.specs.Built.{NodeNamed}
use Rattle.feature_core.proofs.NameLemmas.{node_name}
use Rattle.feature_edges.proofs.NodeLabels.{in_package, index_there}
use Rattle.feature_core.proofs.data.FeatureGraphData.id.Goals as goal

pub package-metadata-requires : goal.package-metadata-requires
package-metadata-requires c =
    let packages = c.args.self.now.packages in
    let p : c.package_of.result ≡ slice_index packages c.args.ix = sym (index_there packages c.args.ix c.package_of.result c.package_of.ensures) in
    let within = in_package c.args.graph.now packages c.args.ix c.package_of.result c.requires.built.packages c.requires.node p in
    within.below

pub returns : goal.returns
returns c =
    let t = c.args.graph.now in
    let n = c.args.ix in
    let table = package_table_of c.package-metadata.result in
    let label = label_of c.label_at-label.result in
    let same : c.deref-2.result.now ≡ c.args.self.now.packages = c.deref-2.ensures.value ∙ ap (λ z. z.packages) c.self.view_is in
    let p : slice_index c.deref-2.result.now n ≡ c.package_of.result = ap (λ z. slice_index z n) same ∙ index_there c.args.self.now.packages n c.package_of.result c.package_of.ensures in
    let node : NodeAt t n c.package_of.result label = subst (λ z. NodeAt t n z label) p c.label_at-label.ensures in
    let name : (table.id, label) ≡ id_of c.new.result = ap (λ z. (z, label)) (sym c.id.ensures) ∙ sym c.new.ensures in
    subst (λ z. NodeNamed t n z) name (node_name t n c.package_of.result label table c.package-metadata.ensures.package node)
