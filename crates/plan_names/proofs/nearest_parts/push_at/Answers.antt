use Rattle.plan_names.specs.inner.Nears.{near_text}
use Rattle.plan_names.proofs.Lists.{list_all_place}
use Rattle.plan_names.proofs.nearest_parts.push_at.Goals as goal

pub loop-item-preserved : goal.loop-item-preserved
loop-item-preserved c = (
  λ test h k. c.in_ok-push_if_at.ensures.parts test (list_all_place near_text test c.args.near.now c.loop-item.item-index _ h c.loop-item-test.true) (c.loop-item.invariant.0 test h k),
  λ h. c.in_ok-push_if_at.ensures.few (c.loop-item.invariant.1 h),
)
