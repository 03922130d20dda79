use Rattle.std.proofs.Common.{ℕ, map}
use Rattle.cargo_workspaces.specs.Views.{package_text}
use Rattle.cargo_workspaces.specs.Workspaces.{PackageText}
use Rattle.cargo_plans.specs.plan_units.UnitViews.{unit_text}
use Rattle.feats_duplicates.specs.Places.{places_at}
use Rattle.feats_duplicates.proofs.Lists.{joined_more}
use Rattle.feats_duplicates.proofs.places.places_of.Goals as goal

pub loop-ix-preserved : goal.loop-ix-preserved
loop-ix-preserved c =
    let units = map unit_text c.args.units.now in
    joined_more package_text (λ (p : ℕ) (x : PackageText). places_at c.args.all units p) c.args.packages.now c.loop-ix.ix c.index-packages-ix.result _ _ _
    c.loop-ix-test.true c.index-packages-ix.is c.loop-ix.invariant (c.in_ok-push_package.ensures units c.in_ok-groups.ensures)
