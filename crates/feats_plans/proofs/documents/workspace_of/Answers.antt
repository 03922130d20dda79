use Rattle.std.specs.Prelude.{◌≡◌, IsErrAnd}
use Rattle.json.specs.Value.{value_view}
use Rattle.feats_plans.specs.numbered_workspaces.Faults.{workspace_in}
use Rattle.feats_plans.specs.DocumentMessages.{IsMessageOf, document_message}
use Rattle.feats_plans.proofs.NoWorkspaces.{message_of}
use Rattle.feats_plans.proofs.Says.{says_more}
use Rattle.feats_plans.proofs.documents.workspace_of.Goals as goal

pub returns-in-Err-clause-fault : goal.returns-in-Err-clause-fault
returns-in-Err-clause-fault c =
    let given = workspace_in (value_view c.args.document) in
    says_more c.document_refused.result (IsMessageOf c.in-Err.fault) (λ m. IsErrAnd given (λ reason. m ≡ document_message reason))
    (λ m h. message_of given m c.in-Err.fault c.in-Err.ensures h) c.document_refused.ensures
