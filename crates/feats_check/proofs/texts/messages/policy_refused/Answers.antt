use Rattle.std.proofs.Common.{subst, sym}
use Rattle.feats_files.specs.Messages.{Says}
use Rattle.feats_policies.specs.declared.fault.PolicyFault.{PolicyFault}
use Rattle.feats_check.specs.texts.Messages.{IsPolicyMessage, malformed_message}
use Rattle.feats_check.proofs.texts.messages.policy_refused.Goals as goal

pub returns-in-Malformed : goal.returns-in-Malformed
returns-in-Malformed c =
    let file = c.args.file.now in
    subst (λ (f : PolicyFault). Says c.refused_by.result (IsPolicyMessage file f)) (sym c.in-Malformed.is)
    (c.refused_by.ensures (malformed_message file c.in-Malformed.line c.in-Malformed.problem) c.malformed_message.ensures)
