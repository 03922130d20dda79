use Rattle.std.proofs.Common.{◌<◌, length, refl, sym, subst, arith}
use Rattle.feature_labels.specs.Names.{id_of}
use Rattle.feature_core.specs.Nodes.{nodes}
use Rattle.feature_graph.specs.Names.{HasPackage}
use Rattle.feature_graph.proofs.BuiltLemmas.{built_count}
use Rattle.feature_graph.proofs.PackageLemmas.{no_package, some_package}
use Rattle.feature_graph.proofs.SetLemmas.{tells_default, no_feature}
use Rattle.feature_graph.proofs.graph.FeatureGraph.is_default_feature.Goals as goal

pub returns-in_default-clause-refused : goal.returns-in_default-clause-refused
returns-in_default-clause-refused c =
    let t = c.args.self.now.graph.now in
    (c.package_id-in_default.ensures, (λ h. no_package t c.package_id.result.now c.in_default.ensures.found (subst (λ z. HasPackage t z) (sym c.package_id.ensures) h)))

pub is_default-requires : goal.is_default-requires
is_default-requires c =
    let count = built_count c.args.self.now.graph.now c.args.self.now.built.now c.args.self.now.is_built in
    let below : c.in-Some.node < length (nodes c.args.self.now.graph.now) = c.in-Some.ensures.within in
    omega (arith, below, count)

pub returns-in-Some-clause-told : goal.returns-in-Some-clause-told
returns-in-Some-clause-told c =
    let t = c.args.self.now.graph.now in
    let b = c.args.self.now.built.now in
    tells_default t (id_of c.args.id) c.in-Some.node c.is_default.result c.in-Some.ensures.named (c.is_default.ensures.meaning t c.args.self.now.is_built)

pub returns-in-None-clause-refused : goal.returns-in-None-clause-refused
returns-in-None-clause-refused c =
    let t = c.args.self.now.graph.now in
    (refl, some_package t (id_of c.args.id).0 c.package_id.result.now c.in-Ok.field-0.package_ix c.package_id.ensures c.in-Ok.ensures.found.1, (λ h. no_feature t (id_of c.args.id) c.in-None.ensures.named h))
