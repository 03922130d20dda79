use Rattle.std.proofs.Common.{◌≡◌, ◌∙◌, refl, sym, subst}
use Rattle.std.specs.Prelude.{IsTrue}
use Rattle.guppy_packages.specs.Metadata.{package_id_of, package_table_of}
use Rattle.guppy_packages.specs.Rows.{Text}
use Rattle.feature_labels.specs.Names.{LabelName, id_of, label_of}
use Rattle.feature_links.specs.Links.{IsPackage}
use Rattle.feature_graph.specs.Names.{HasFeature, has_feature}
use Rattle.feature_graph.proofs.PackageLemmas.{package_unknown, feature_known, feature_unknown, id_found}
use Rattle.feature_graph.proofs.SameFeatures.{feature_passes}
use Rattle.feature_graph.proofs.graph.FeatureGraph.metadata.Goals as goal

pub returns-in_default-clause-refused : goal.returns-in_default-clause-refused
returns-in_default-clause-refused c =
    let name = id_of c.args.id in
    (refl, package_unknown c.args.self.now.graph.now name c.package_id.result.now name.1 c.package_id.ensures refl c.node_names.ensures c.in_default.ensures.found)

pub returns-in-Some-clause-name : goal.returns-in-Some-clause-name
returns-in-Some-clause-name c =
    let t = c.args.self.now.graph.now in
    let table = package_table_of c.in-Ok.package in
    let p = c.in-Ok.package.package_ix in
    let is : IsPackage t p table = subst (λ z. IsPackage z p table) c.in-Ok.ensures.found.0 c.in-Ok.package.stands in
    let id = id_found t c.package_id.result.now p table c.in-Ok.ensures.found.1 is ∙ c.package_id.ensures in
    let label = c.in-Some.ensures.same ∙ c.label.ensures in
    (λ i. (id i, label i))

pub returns-in-Some-clause-known : goal.returns-in-Some-clause-known
returns-in-Some-clause-known c =
    let t = c.args.self.now.graph.now in
    let table = package_table_of c.in-Ok.package in
    let p = c.in-Ok.package.package_ix in
    let is : IsPackage t p table = subst (λ z. IsPackage z p table) c.in-Ok.ensures.found.0 c.in-Ok.package.stands in
    feature_known t (id_of c.args.id) c.package_id.result.now (label_of c.label.result) c.package_id.ensures c.label.ensures p table c.node_names.ensures c.in-Ok.ensures.found.1 is (c.in-Some.ensures.known.0 refl)

pub returns-in-None-clause-refused : goal.returns-in-None-clause-refused
returns-in-None-clause-refused c =
    let t = c.args.self.now.graph.now in
    let table = package_table_of c.in-Ok.package in
    let p = c.in-Ok.package.package_ix in
    let is : IsPackage t p table = subst (λ z. IsPackage z p table) c.in-Ok.ensures.found.0 c.in-Ok.package.stands in
    (refl, feature_unknown t (id_of c.args.id) c.package_id.result.now (label_of c.label.result) c.package_id.ensures c.label.ensures p table c.facts.ensures c.node_names.ensures c.in-Ok.ensures.found.1 is (λ k. let e = c.in-None.ensures.known.1 k in cc))

pub invariant_of-result : goal.invariant_of-result
invariant_of-result c =
    let t = c.args.self.now.graph.now in
    let table = package_table_of c.in-Ok.package in
    let p = c.in-Ok.package.package_ix in
    let is : IsPackage t p table = subst (λ z. IsPackage z p table) c.in-Ok.ensures.found.0 c.in-Ok.package.stands in
    let known : HasFeature t (id_of c.args.id) = feature_known t (id_of c.args.id) c.package_id.result.now (label_of c.label.result) c.package_id.ensures c.label.ensures p table c.node_names.ensures c.in-Ok.ensures.found.1 is (c.in-Some.ensures.known.0 refl) in
    let id = id_found t c.package_id.result.now p table c.in-Ok.ensures.found.1 is ∙ c.package_id.ensures in
    let label = c.in-Some.ensures.same ∙ c.label.ensures in
    let name : ◌≡◌ {A = Text × LabelName} (package_id_of c.in-Ok.package, label_of c.in-Some.label) (id_of c.args.id) = λ i. (id i, label i) in
    record { stands = subst (λ z. IsTrue (has_feature z (package_id_of c.in-Ok.package, label_of c.in-Some.label))) (sym c.in-Ok.ensures.found.0) (subst (λ n. IsTrue (has_feature t n)) (sym name) (feature_passes t (id_of c.args.id) known)) }
