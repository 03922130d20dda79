use Rattle.workspace_documents.proofs.OtherNames.{inserted}
use Rattle.workspace_documents.proofs.UseSets.{lent}
use Rattle.workspace_documents.proofs.aliases.insert_unless_called.Goals as goal

pub returns-in_ok-_is_new : goal.returns-in_ok-_is_new
returns-in_ok-_is_new c = λ q. inserted c.args.names.now q c.args.dependency.now c.is_called.result _ _ c.is_called.ensures c.if-not-is_called.true (c.in_ok-_is_new.ensures.updates.0 (lent q))
