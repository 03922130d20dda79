use Rattle.std.proofs.Common.{◌≡◌, ◌∙◌, None, Some, ap, refl, subst}
use Rattle.guppy_packages.specs.Metadata.{package_number_of}
use Rattle.guppy_packages.specs.Tables.{package_place}
use Rattle.feature_graph.proofs.PackageLemmas.{no_package, some_package}
use Rattle.feature_graph.proofs.set.FeatureSet.features_for.Goals as goal

pub returns-in_default-clause-refused : goal.returns-in_default-clause-refused
returns-in_default-clause-refused c =
    let same : c.package_graph.result.now ≡ c.args.self.now.graph.tables = c.package_graph.ensures ∙ ap (λ s. s.graph.tables) c.self.view_is in
    (refl, no_package c.args.self.now.graph.tables c.args.package_id.now (subst (λ t. package_place c.args.package_id.now t.packages ≡ None) same c.in_default.ensures.found))

pub returns-in-Err-clause-refused : goal.returns-in-Err-clause-refused
returns-in-Err-clause-refused c =
    let same : c.package_graph.result.now ≡ c.args.self.now.graph.tables = c.package_graph.ensures ∙ ap (λ s. s.graph.tables) c.self.view_is in
    let found = subst (λ t. package_place c.args.package_id.now t.packages ≡ Some (package_number_of c.in-Ok.package)) same c.in-Ok.ensures.found.1 in
    some_package c.args.self.now.graph.tables c.args.package_id.now c.args.package_id.now (package_number_of c.in-Ok.package) refl found
