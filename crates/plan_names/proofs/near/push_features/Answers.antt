use Rattle.std.proofs.Common.{◌∙◌, ap, Option, false}
use Rattle.std.specs.Option.{option_map_or}
use Rattle.cargo_workspaces.specs.Workspaces.{PackageText}
use Rattle.plan_names.specs.Names.{feature}
use Rattle.plan_names.specs.Suggestions.{has_part, is_part}
use Rattle.plan_names.proofs.Lists.{feature_at}
use Rattle.plan_names.proofs.near.push_features.Goals as goal

pub loop-feature-preserved : goal.loop-feature-preserved
loop-feature-preserved c packages is h =
    let f = c.feature-item.result in
    let same = c.deref-feature-items.ensures.value in
    let within = rw same at c.loop-feature-test.true in
    let at = rw same at c.feature-item.is in
    c.in_ok-push_near.ensures (is_part packages) (c.loop-feature.invariant packages is h)
    (ap (λ (p : Option PackageText). option_map_or (has_part (feature f.name.now)) p false) is ∙ feature_at c.args.«package».now.features.items c.loop-feature.feature-index f within at)
