use Rattle.std.proofs.Common.{map}
use Rattle.plan_rows.specs.platforms.HeldSpecs.{holds_on}
use Rattle.plan_rows.specs.platforms.Views.{declared_text}
use Rattle.feats_files.proofs.Held.{held_more}
use Rattle.feats_files.proofs.platforms.held_on_each.Goals as goal

pub loop-target-preserved : goal.loop-target-preserved
loop-target-preserved c =
    held_more holds_on c.args.targets.now (map declared_text c.args.specs.now) c.loop-target.target-index c.target-item.result c.loop-target.each.items c.push.new.self.items c.in_ok-held_on.field-0
    c.loop-target-test.true c.target-item.is c.loop-target.invariant c.in_ok-held_on.ensures.held c.in_ok-push.ensures.items
