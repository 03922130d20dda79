use Rattle.std.proofs.Common.{◌∙◌, ◌++◌, ◌&&◌, ◌∷◌, [], ℕ, ap, cond, map}
use Rattle.std.specs.Prelude.{if◌then◌else◌}
use Rattle.std.specs.Str.{bytes_eq}
use Rattle.cargo_workspaces.specs.Views.{package_text}
use Rattle.cargo_workspaces.specs.Workspaces.{PackageText}
use Rattle.cargo_plans.specs.plan_units.UnitViews.{unit_text}
use Rattle.feats_duplicates.specs.Built.{is_built}
use Rattle.feats_duplicates.specs.inner.Groups.{named}
use Rattle.feats_duplicates.proofs.Lists.{joined_more}
use Rattle.feats_duplicates.proofs.versions.built_names.Goals as goal

pub loop-ix-preserved : goal.loop-ix-preserved
loop-ix-preserved c = λ q.
    let units = map unit_text c.args.units.now in
    let x = c.index-packages-ix.result in
    let ix = c.loop-ix.ix in
    joined_more package_text (λ (p : ℕ) (y : PackageText). if is_built units p && bytes_eq q y.name then p ∷ [] else []) c.args.packages.now ix x _ _ _
    c.loop-ix-test.true c.index-packages-ix.is (c.loop-ix.invariant q)
    (c.in_ok-add_if.ensures q ∙ ap (λ b. named c.loop-ix.names q ++ cond (b && bytes_eq q x.name.now) (ix ∷ []) []) (c.is_built.ensures units c.in_ok-groups.ensures))
