use Rattle.std.proofs.Common.{◌≡◌, ◌<◌, ◌∙◌, length, sym, subst, ap, arith, Option, Some}
use Rattle.std.specs.Prelude.{IsTrue, slice_get}
use Rattle.std.proofs.lemmas.Option.{slice_get_within}
use Rattle.guppy_packages.specs.Metadata.{package_id_of, package_table_of}
use Rattle.guppy_packages.specs.Tables.{PackageTable}
use Rattle.feature_core.specs.Built.{NodeNamed}
use Rattle.feature_core.specs.Nodes.{nodes}
use Rattle.feature_labels.specs.Names.{id_of, label_of}
use Rattle.feature_graph.proofs.BuiltLemmas.{built_count}
use Rattle.feature_graph.specs.Names.{has_feature}
use Rattle.feature_graph.proofs.NodePackages.{node_package}
use Rattle.feature_graph.proofs.SameFeatures.{feature_passes}
use Rattle.feature_graph.proofs.link.feature_at.Goals as goal

pub id-id-requires-clause-built : goal.id-id-requires-clause-built
id-id-requires-clause-built c = c.args.graph.is_built

pub id-id-requires-clause-node : goal.id-id-requires-clause-node
id-id-requires-clause-node c =
    let count = built_count c.args.graph.graph.now c.args.graph.built.now c.args.graph.is_built in
    let below : c.args.node < length (nodes c.args.graph.graph.now) = c.requires in
    omega (arith, below, count)

pub package_of-requires : goal.package_of-requires
package_of-requires c =
    let count = built_count c.args.graph.graph.now c.args.graph.built.now c.args.graph.is_built in
    let below : c.args.node < length (nodes c.args.graph.graph.now) = c.requires in
    omega (arith, below, count)

pub package-package-requires : goal.package-package-requires
package-package-requires c =
    let t = c.args.graph.graph.now in
    let b = c.args.graph.is_built in
    let at = subst (λ z. slice_get z c.args.node ≡ Some c.package_of.result) b.packages c.package_of.ensures in
    let of = node_package t c.args.node c.package_of.result (id_of c.id-id.result) at c.id-id.ensures in
    slice_get_within t.packages c.package_of.result of.table of.is

pub returns-clause-name : goal.returns-clause-name
returns-clause-name c =
    let t = c.args.graph.graph.now in
    let b = c.args.graph.is_built in
    let at = subst (λ z. slice_get z c.args.node ≡ Some c.package_of.result) b.packages c.package_of.ensures in
    let of = node_package t c.args.node c.package_of.result (id_of c.id-id.result) at c.id-id.ensures in
    let row : ◌≡◌ {A = Option PackageTable} (Some of.table) (Some (package_table_of c.package-package.result)) = sym of.is ∙ c.package-package.ensures.package in
    let table : of.table ≡ package_table_of c.package-package.result = cc in
    let package_id : (id_of c.id-id.result).0 ≡ package_id_of c.package-package.result = sym of.named ∙ ap (λ z. z.id) table in
    let label : (id_of c.id-id.result).1 ≡ label_of c.label.result = sym c.label.ensures in
    c.id-id.ensures ∙ (λ i. Some (package_id i, label i))

pub invariant_of-result : goal.invariant_of-result
invariant_of-result c =
    let t = c.args.graph.graph.now in
    let b = c.args.graph.is_built in
    let at = subst (λ z. slice_get z c.args.node ≡ Some c.package_of.result) b.packages c.package_of.ensures in
    let of = node_package t c.args.node c.package_of.result (id_of c.id-id.result) at c.id-id.ensures in
    let row : ◌≡◌ {A = Option PackageTable} (Some of.table) (Some (package_table_of c.package-package.result)) = sym of.is ∙ c.package-package.ensures.package in
    let table : of.table ≡ package_table_of c.package-package.result = cc in
    let package_id : (id_of c.id-id.result).0 ≡ package_id_of c.package-package.result = sym of.named ∙ ap (λ z. z.id) table in
    let label : (id_of c.id-id.result).1 ≡ label_of c.label.result = sym c.label.ensures in
    let named : NodeNamed t c.args.node (package_id_of c.package-package.result, label_of c.label.result) = c.id-id.ensures ∙ (λ i. Some (package_id i, label i)) in
    record { stands = subst (λ z. IsTrue (has_feature z (package_id_of c.package-package.result, label_of c.label.result))) (sym c.package-package.ensures.graph) (feature_passes t (package_id_of c.package-package.result, label_of c.label.result) (c.args.node, named)) }
