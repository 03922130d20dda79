use Rattle.cargo_manifests.proofs.Documents.{documents_more}
use Rattle.cargo_manifests.proofs.inherited.manifests.documents_of.Goals as goal

pub loop-piece-preserved : goal.loop-piece-preserved
loop-piece-preserved c =
    documents_more c.args.pieces.now c.loop-piece.piece-index _ c.loop-piece.documents.items _ c.in_ok-document_of.field-0
    c.loop-piece-test.true c.loop-piece.invariant c.in_ok-document_of.ensures.document c.in_ok-push.ensures.items
