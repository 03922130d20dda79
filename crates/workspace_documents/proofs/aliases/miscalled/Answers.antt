use Rattle.std.proofs.Common.{◌∙◌, ap}
use Rattle.std.specs.Prelude.{◌||◌}
use Rattle.workspace_documents.specs.inner.Aliases.{has_id, is_miscalled}
use Rattle.workspace_documents.proofs.OtherNames.{miscalled_more}
use Rattle.workspace_documents.proofs.aliases.miscalled.Goals as goal

pub loop-dependency-preserved : goal.loop-dependency-preserved
loop-dependency-preserved c = λ q.
    let next = c.in_ok-insert_unless_called.ensures q ∙ ap (λ d. has_id c.loop-dependency.ids q || is_miscalled c.args.names.now q d) c.dependency-item.is in
    miscalled_more c.args.names.now q c.args.dependencies.now c.loop-dependency.dependency-index c.dependency-item.result _ _ c.loop-dependency-test.true (c.loop-dependency.invariant q) next
