use Rattle.std.proofs.Common.{map}
use Rattle.std.specs.Prelude.{flat_map}
use Rattle.plan_names.specs.Views.{named_text}
use Rattle.plan_whys.specs.StepViews.{spot_text}
use Rattle.feats_policies.specs.checks.Spots.{on_both_sides}
use Rattle.feats_policies.specs.checks.Views.{build_text}
use Rattle.feats_policies.proofs.Counted.{built_spots}
use Rattle.feats_policies.proofs.checks.on_spots.spots_built.Goals as goal

pub returns : goal.returns
returns c =
    built_spots c.spots_in.result (λ v. map spot_text v.items) (build_text c.args.build) c.on.result.now c.in_ok-built.built (flat_map on_both_sides (map named_text c.args.parts.now))
    c.on.ensures c.in_ok-built.ensures.packages c.spots_in.ensures
