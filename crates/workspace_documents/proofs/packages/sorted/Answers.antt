use Rattle.std.proofs.Common.{refl}
use Rattle.workspace_documents.proofs.Entries.{sorted_more}
use Rattle.workspace_documents.proofs.packages.sorted.Goals as goal

pub loop-name-preserved : goal.loop-name-preserved
loop-name-preserved c = sorted_more _ c.loop-name.name-index c.loop-name-item.result _ _ _ _ c.loop-name-test.true c.loop-name-item.is refl c.in_ok-_earlier.ensures.entries c.loop-name.invariant
