use Rattle.std.proofs.Common.{◌≡◌, ◌∙◌, ap, refl, subst, None}
use Rattle.guppy_packages.specs.Tables.{package_place}
use Rattle.feature_graph.proofs.PackageLemmas.{no_package}
use Rattle.feature_graph.proofs.set.FeatureSet.contains_package.Goals as goal

pub returns-in-Err : goal.returns-in-Err
returns-in-Err c =
    let same : c.package_graph.result.now ≡ c.args.self.now.graph.tables = c.package_graph.ensures ∙ ap (λ s. s.graph.tables) c.self.view_is in
    (refl, no_package c.args.self.now.graph.tables c.args.package_id.now (subst (λ t. package_place c.args.package_id.now t.packages ≡ None) same c.in-Err.ensures.found))
