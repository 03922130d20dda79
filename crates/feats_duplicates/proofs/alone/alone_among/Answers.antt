use Rattle.std.proofs.Common.{◌∙◌, ◌++◌, ℕ, List, ap, map}
use Rattle.cargo_workspaces.specs.Views.{package_text, texts}
use Rattle.cargo_workspaces.specs.Workspaces.{PackageText}
use Rattle.cargo_plans.specs.declared.plan_units.unit.Place.{Place}
use Rattle.feats_duplicates.specs.Alone.{all_places, alone_in}
use Rattle.feats_duplicates.specs.Views.{alone_text, member_unit_text}
use Rattle.feats_duplicates.proofs.Lists.{joined_more}
use Rattle.feats_duplicates.proofs.alone.alone_among.Goals as goal

pub loop-ix-preserved : goal.loop-ix-preserved
loop-ix-preserved c =
    let rows = map member_unit_text c.args.rows.now in
    let ix = c.loop-ix.ix in
    joined_more package_text (λ (p : ℕ) (x : PackageText). alone_in (all_places (texts c.args.names.now)) rows p) c.args.packages.now ix c.index-packages-ix.result _ _ _
    c.loop-ix-test.true c.index-packages-ix.is c.loop-ix.invariant
    (c.in_ok-push_package.ensures rows c.in_ok-groups.ensures
    ∙ ap (λ (places : List Place). map alone_text c.loop-ix.list.items ++ alone_in places rows ix) (c.deref.ensures.value ∙ c.in_ok-places.ensures))
