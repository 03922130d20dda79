use Rattle.workspace_documents.proofs.Named.{named_more}
use Rattle.workspace_documents.proofs.names.names_of.Goals as goal

pub loop-place-preserved : goal.loop-place-preserved
loop-place-preserved c = λ q. named_more q c.args.deps.now c.loop-place.place c.index-deps-place.result _ c.loop-place-test.true c.index-deps-place.is (c.loop-place.invariant q) _ (c.in_ok-add_name.ensures q)
