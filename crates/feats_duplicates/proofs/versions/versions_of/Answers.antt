use Rattle.std.proofs.Common.{map, subst, sym}
use Rattle.std.proofs.lemmas.List.{length-map}
use Rattle.std.proofs.lemmas.Result.{IfOk-weaker}
use Rattle.cargo_workspaces.specs.Views.{package_text}
use Rattle.cargo_plans.specs.plan_units.UnitViews.{unit_text}
use Rattle.feats_duplicates.specs.inner.Dependents.{HasDependents}
use Rattle.feats_duplicates.proofs.NameLemmas.{are_versions}
use Rattle.feats_duplicates.proofs.versions.versions_of.Goals as goal

pub returns : goal.returns
returns c =
    let packages = map package_text c.args.packages.now in
    let units = map unit_text c.args.units.now in
    let links = c.args.links.now in
    let has = subst (λ n. HasDependents c.in_ok-dependents.dependents n units links) (sym (length-map c.args.packages.now package_text)) c.in_ok-dependents.ensures in
    IfOk-weaker c.with_several.result _ _ (λ list entries. are_versions c.in_ok-names.names packages units links _ c.in_ok-names.ensures c.with_several.ensures.ordered entries)
    (c.with_several.ensures.entries packages units links has)
