use Rattle.std.proofs.lemmas.Result.{err_from_is_err_and}
use Rattle.workspace_documents.proofs.Members.{known_more, known_refused}
use Rattle.workspace_documents.proofs.nodes.check_members.Goals as goal

pub returns-in_err-_known : goal.returns-in_err-_known
returns-in_err-_known c =
    let p = err_from_is_err_and c.from_residual.result c.from_residual.ensures.1 in
    rw (p.1, p.2) (known_refused _ _ _ _ _ _ c.loop-id-test.true c.loop-id.invariant _ c.in_err-_known.ensures)

pub loop-id-preserved : goal.loop-id-preserved
loop-id-preserved c = known_more _ _ _ _ _ _ c.loop-id-test.true c.loop-id.invariant _ c.in_ok-_known.ensures
