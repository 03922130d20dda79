use Rattle.std.proofs.lemmas.Result.{err_from_is_err_and}
use Rattle.feats_plans.specs.Bases.{IsBasisRefusal}
use Rattle.feats_plans.specs.BasisView.{basis_text}
use Rattle.feats_plans.specs.Inputs.{inputs_text}
use Rattle.feats_plans.specs.Planning.{IsDocumentRefusal, IsPlanningRefusal, of_basis, of_document}
use Rattle.feats_plans.proofs.Says.{if_err_more, says_more}
use Rattle.feats_plans.proofs.visits.visit_plan.Goals as goal

pub returns-in_err-basis-clause-fault : goal.returns-in_err-basis-clause-fault
returns-in_err-basis-clause-fault g c =
    let p = err_from_is_err_and c.from_residual.result c.from_residual.ensures.1 in
    let inputs = inputs_text c.args.arguments.now c.args.files.now in
    let R = g.V.PlanVisitor.refuses c.args.visitor.now in
    rw (p.1, p.2) (says_more c.in_err-basis.field-0.0 (IsBasisRefusal inputs) (IsPlanningRefusal inputs c.args.bytes.now R) (λ m h. of_basis h) c.in_err-basis.ensures.fault)

pub returns-clause-fault : goal.returns-clause-fault
returns-clause-fault g c =
    let inputs = inputs_text c.args.arguments.now c.args.files.now in
    let basis = basis_text c.in_ok-basis.basis in
    let R = g.V.PlanVisitor.refuses c.args.visitor.now in
    if_err_more c.bytes_output.result (IsDocumentRefusal inputs basis c.args.bytes.now R) (IsPlanningRefusal inputs c.args.bytes.now R)
    (λ m h. of_document basis c.in_ok-basis.ensures.basis h) c.bytes_output.ensures.fault
