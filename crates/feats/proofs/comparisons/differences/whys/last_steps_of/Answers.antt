use Rattle.std.proofs.Common.{ap, map}
use Rattle.std.specs.String.{string_bytes}
use Rattle.feats.specs.comparisons.differences.Views.{build_text}
use Rattle.feats.proofs.WhyLists.{ok_with, whys_from}
use Rattle.feats.proofs.comparisons.differences.whys.last_steps_of.Goals as goal
use Rattle.plan_whys.specs.StepViews.{last_text, spot_text}

pub returns : goal.returns
returns c =
    ok_with _ _ c.lines_of.result c.lines_of.ensures (λ whys are.
    whys_from (build_text c.args.build.now) (map spot_text c.args.spots.now) (map last_text c.in_ok-lasts.lasts.items) (map last_text c.deref.result.now) (map string_bytes whys.items)
    (ap (map last_text) c.deref.ensures.value) c.in_ok-lasts.ensures are)
