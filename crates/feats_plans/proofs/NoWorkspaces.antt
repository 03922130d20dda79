-- The message about a document that describes no workspace.
use Rattle.std.proofs.Common.{◌≡◌, subst, sym, Result, Err}
use Rattle.std.specs.Prelude.{IsErrAnd}
use Rattle.cargo_workspaces.specs.Workspaces.{Text, WorkspaceText}
use Rattle.feats_plans.specs.numbered_workspaces.Faults.{NoWorkspace}
use Rattle.feats_plans.specs.numbered_workspaces.Gives.{Claims}
use Rattle.feats_plans.specs.declared.numbered_workspaces.fault.WorkspaceFault.{WorkspaceFault}
use Rattle.feats_plans.specs.declared.numbered_workspaces.fault.WorkspaceFault.TheVariants as fault
use Rattle.feats_plans.specs.DocumentMessages.{IsMessageOf, document_message}

module _ (given : Result WorkspaceText NoWorkspace) (m : Text) where
  -- under the name of the result
  by_name : (reason : NoWorkspace) → given ≡ Err reason → m ≡ document_message reason → IsErrAnd given (λ reason. m ≡ document_message reason)
  by_name reason is h = subst (λ g. IsErrAnd g (λ reason. m ≡ document_message reason)) (sym is) h

  pub message_of : (e : WorkspaceFault) → Claims e (λ reason. given ≡ Err reason) → IsMessageOf e m → IsErrAnd given (λ reason. m ≡ document_message reason)
  message_of (fault.Document refused) is h = by_name _ is h
  message_of (fault.FeatureName owner name) is h = by_name _ is h
  message_of (fault.TwoNames owner first second) is h = by_name _ is h
  message_of fault.Memory is h = absurd h
