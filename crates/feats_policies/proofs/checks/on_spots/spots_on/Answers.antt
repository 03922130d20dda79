use Rattle.std.proofs.Common.{ap, map}
use Rattle.std.specs.Prelude.{flat_map}
use Rattle.plan_names.specs.Views.{named_text}
use Rattle.plan_whys.specs.StepViews.{spot_text}
use Rattle.feats_policies.specs.checks.Builds.{is_every}
use Rattle.feats_policies.specs.checks.Spots.{on_both_sides}
use Rattle.feats_policies.specs.checks.Views.{build_text}
use Rattle.feats_policies.proofs.Counted.{every_spots}
use Rattle.feats_policies.proofs.checks.on_spots.spots_on.Goals as goal

pub returns-in-ForEveryChoice : goal.returns-in-ForEveryChoice
returns-in-ForEveryChoice c =
    every_spots c.spots_in.result (λ v. map spot_text v.items) (build_text c.args.build) c.on.result.now (flat_map on_both_sides (map named_text c.args.parts.now)) c.on.ensures (ap is_every c.in-ForEveryChoice.is) c.spots_in.ensures
