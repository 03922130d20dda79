use Rattle.std.proofs.Common.{◌∙◌, sym}
use Rattle.plan_whys.specs.StepViews.{spot_text}
use Rattle.plan_whys.proofs.ReasonLists.{spot_within}
use Rattle.plan_whys.proofs.direct_reasons.reasons.Goals as goal

pub reasons_at-requires : goal.reasons_at-requires
reasons_at-requires c = spot_within c.on-on.result.now (spot_text c.args.at) c.in-Some.node (sym c.node_of.ensures ∙ c.in-Some.is)
