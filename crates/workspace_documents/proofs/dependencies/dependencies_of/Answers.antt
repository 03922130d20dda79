use Rattle.workspace_documents.proofs.Picks.{led_next}
use Rattle.workspace_documents.proofs.dependencies.dependencies_of.Goals as goal

pub loop-declaration-preserved : goal.loop-declaration-preserved
loop-declaration-preserved c = rw c.in_ok-push_led.ensures (led_next _ _ _ _ _ _ _ c.loop-declaration-test.true c.declaration-item.is c.loop-declaration.invariant _ c.in_ok-target.ensures)
