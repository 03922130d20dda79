use Rattle.std.proofs.Common.{◌≡◌}
use Rattle.feats_plans.specs.BasisView.{basis_text}
use Rattle.feats_plans.specs.Inputs.{inputs_text}
use Rattle.feats_plans.specs.Planning.{IsDocumentRefusal, not_text, not_text_message}
use Rattle.feats_plans.proofs.Says.{says_more}
use Rattle.feats_plans.proofs.visits.bytes_output.Goals as goal

pub returns-in_default-clause-fault : goal.returns-in_default-clause-fault
returns-in_default-clause-fault g c =
    let inputs = inputs_text c.args.arguments.now c.args.files.now in
    let basis = basis_text c.args.basis.now in
    let R = g.V.PlanVisitor.refuses c.args.visitor.now in
    says_more c.refused.result (λ m. m ≡ not_text_message) (IsDocumentRefusal inputs basis c.args.bytes.now R)
    (λ m h. not_text c.in_default.ensures.cases.0 h) c.refused.ensures
