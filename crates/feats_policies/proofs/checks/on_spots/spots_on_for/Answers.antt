use Rattle.std.proofs.Common.{map}
use Rattle.std.specs.Prelude.{flat_map}
use Rattle.plan_names.specs.Views.{named_text}
use Rattle.plan_whys.specs.StepViews.{spot_text}
use Rattle.feats_policies.specs.checks.Spots.{on_both_sides}
use Rattle.feats_policies.specs.checks.Views.{build_text}
use Rattle.feats_policies.proofs.Marked.{for_platform}
use Rattle.feats_policies.proofs.checks.on_spots.spots_on_for.Goals as goal

pub returns : goal.returns
returns c =
    for_platform c.spots_in.result (λ v. map spot_text v.items) (build_text c.args.build) c.args.triple.now c.on-on.result.now c.package_count-count.result c.deref.result c.deref-2.result c.in_ok-target.target.items c.in_ok-host.host.items
    (flat_map on_both_sides (map named_text c.args.parts.now)) c.on-on.ensures c.package_count-count.ensures.count c.deref.ensures.value c.deref-2.ensures.value c.in_ok-target.ensures c.in_ok-host.ensures c.spots_in.ensures
