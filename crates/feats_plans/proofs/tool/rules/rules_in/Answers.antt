use Rattle.std.proofs.Common.{subst}
use Rattle.cargo_workspaces.specs.Workspaces.{Text}
use Rattle.feats_policies.specs.Policies.{IsPolicyFault}
use Rattle.feats_check.specs.texts.Messages.{IsPolicyMessage}
use Rattle.feats_plans.proofs.Says.{says_more}
use Rattle.feats_plans.specs.tool.Rules.{IsFileRefusal, malformed}
use Rattle.feats_plans.proofs.tool.rules.rules_in.Goals as goal

pub returns-in-Err-clause-fault : goal.returns-in-Err-clause-fault
returns-in-Err-clause-fault c =
    let file = c.args.file.now in
    let fault = c.in-Err.fault in
    let is_text = c.in-Ok.ensures.cases in
    says_more c.policy_refused.result (IsPolicyMessage file fault) (IsFileRefusal file c.args.bytes.now)
    (λ m h. malformed is_text.1 fault (subst (λ (t : Text). IsPolicyFault t fault) is_text.0 c.in-Err.ensures.fault) h) c.policy_refused.ensures
