use Rattle.std.proofs.Common.{subst, sym}
use Rattle.feats_plans.specs.declared.numbered_workspaces.fault.WorkspaceFault.{WorkspaceFault}
use Rattle.feats_files.specs.Messages.{Says}
use Rattle.feats_plans.specs.DocumentMessages.{IsMessageOf}
use Rattle.feats_plans.proofs.document_messages.document_refused.Goals as goal

pub returns-in-FeatureName : goal.returns-in-FeatureName
returns-in-FeatureName c = subst (λ (f : WorkspaceFault). Says c.refused.result (IsMessageOf f)) (sym c.in-FeatureName.is) c.refused.ensures

pub returns-in-TwoNames : goal.returns-in-TwoNames
returns-in-TwoNames c = subst (λ (f : WorkspaceFault). Says c.refused-in-TwoNames.result (IsMessageOf f)) (sym c.in-TwoNames.is) c.refused-in-TwoNames.ensures
