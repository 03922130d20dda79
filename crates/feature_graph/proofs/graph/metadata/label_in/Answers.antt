use Rattle.std.proofs.Common.{◌∙◌, refl, ap, sym, subst, Contains}
use Rattle.std.specs.String.{string_bytes}
use Rattle.guppy_packages.specs.Metadata.{package_table_of}
use Rattle.guppy_packages.specs.NamedFeature.{feature_table}
use Rattle.feature_labels.specs.Names.{label_of}
use Rattle.feature_labels.specs.Names.LabelName.{named, optional}
use Rattle.feature_core.specs.Nodes.{labels_of}
use Rattle.feature_graph.proofs.PackageLemmas.{has_named, has_no_named, has_optional, has_no_optional, read_named, read_optional}
use Rattle.feature_graph.proofs.graph.metadata.label_in.Goals as goal

pub returns-in-Some-clause-same : goal.returns-in-Some-clause-same
returns-in-Some-clause-same c =
    let read = read_named feature_table (package_table_of c.args.package) c.named_features.result.now c.in-Named.name.now c.in-Some.place c.index-named_features-place.result _ c.named_features.ensures (sym c.in-Some.ensures) c.index-named_features-place.is in
    ap named (c.name.ensures ∙ read) ∙ ap label_of (sym c.in-Named.is)

pub returns-in-Some-clause-known : goal.returns-in-Some-clause-known
returns-in-Some-clause-known c =
    let table = package_table_of c.args.package in (
      (λ e. subst (λ l. Contains (labels_of table) (label_of l)) (sym c.in-Named.is) (has_named table c.in-Named.name.now c.in-Some.place (sym c.in-Some.ensures))),
      (λ e. refl),
    )

pub returns-in-None-clause-known : goal.returns-in-None-clause-known
returns-in-None-clause-known c =
    let table = package_table_of c.args.package in (
      (λ e. cc),
      (λ k. absurd (has_no_named table c.in-Named.name.now (sym c.in-None.ensures) (subst (λ l. Contains (labels_of table) (label_of l)) c.in-Named.is k))),
    )

pub returns-in-Some-optional_place-clause-same : goal.returns-in-Some-optional_place-clause-same
returns-in-Some-optional_place-clause-same c =
    let read = read_optional string_bytes (package_table_of c.args.package) c.optional_deps.result.now c.in-OptionalDependency.name.now c.in-Some-optional_place.place c.index-optional_deps-place.result _ c.optional_deps.ensures (sym c.in-Some-optional_place.ensures) c.index-optional_deps-place.is in
    ap optional (c.as_str.ensures.value ∙ read) ∙ ap label_of (sym c.in-OptionalDependency.is)

pub returns-in-Some-optional_place-clause-known : goal.returns-in-Some-optional_place-clause-known
returns-in-Some-optional_place-clause-known c =
    let table = package_table_of c.args.package in (
      (λ e. subst (λ l. Contains (labels_of table) (label_of l)) (sym c.in-OptionalDependency.is) (has_optional table c.in-OptionalDependency.name.now c.in-Some-optional_place.place (sym c.in-Some-optional_place.ensures))),
      (λ e. refl),
    )

pub returns-in-None-optional_place-clause-known : goal.returns-in-None-optional_place-clause-known
returns-in-None-optional_place-clause-known c =
    let table = package_table_of c.args.package in (
      (λ e. cc),
      (λ k. absurd (has_no_optional table c.in-OptionalDependency.name.now (sym c.in-None-optional_place.ensures) (subst (λ l. Contains (labels_of table) (label_of l)) c.in-OptionalDependency.is k))),
    )
