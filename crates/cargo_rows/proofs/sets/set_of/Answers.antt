use Rattle.cargo_rows.proofs.IdSets.{text_more}
use Rattle.cargo_rows.proofs.sets.set_of.Goals as goal

pub loop-id-preserved : goal.loop-id-preserved
loop-id-preserved c = λ q. text_more c.args.ids.now c.loop-id.id-index _ q.now _ _ c.loop-id-test.true (c.in_ok-_is_new.ensures.updates.0 q) (c.loop-id.invariant q)
