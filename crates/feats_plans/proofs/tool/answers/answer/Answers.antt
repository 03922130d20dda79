use Rattle.std.proofs.Common.{map, subst}
use Rattle.std.proofs.lemmas.Result.{IfOk-weaker}
use Rattle.cargo_workspaces.specs.Workspaces.{Text}
use Rattle.feats_plans.specs.Inputs.{inputs_text}
use Rattle.feats_plans.specs.Planning.{AfterPlanning, IsPlanningRefusal}
use Rattle.feats_plans.proofs.Says.{if_err_more}
use Rattle.feats_policies.specs.Views.{rule_text}
use Rattle.feats_plans.specs.tool.AnsweredView.{answered_text}
use Rattle.feats_plans.specs.tool.Answers.{IsNoAnswer, IsPlanAnswer, IsPlanRefusal, of_plan}
use Rattle.feats_plans.specs.tool.Rules.{AreRules}
use Rattle.feats_plans.proofs.tool.answers.answer.Goals as goal

pub returns-clause-answer : goal.returns-clause-answer
returns-clause-answer c =
    let inputs = inputs_text c.args.arguments.now c.args.files.now in
    let rules = map rule_text c.in_ok-rules.rules.items in
    IfOk-weaker c.visit_plan.result _ _ (λ a h. record {
      rules = rules;
      are_rules = subst (λ (bytes : Text). AreRules inputs.arguments.question bytes rules) c.deref.ensures.value c.in_ok-rules.ensures.rules;
      is_answer = subst (λ rs. AfterPlanning inputs c.args.bytes.now (λ p. IsPlanAnswer c.args.bytes.now (map rule_text rs) p (answered_text a))) c.deref-2.ensures.value h;
    }) c.visit_plan.ensures.output

pub returns-clause-fault : goal.returns-clause-fault
returns-clause-fault c =
    let inputs = inputs_text c.args.arguments.now c.args.files.now in
    let bytes = c.args.bytes.now in
    let rules = map rule_text c.in_ok-rules.rules.items in
    let are = subst (λ (policy : Text). AreRules inputs.arguments.question policy rules) c.deref.ensures.value c.in_ok-rules.ensures.rules in
    if_err_more c.visit_plan.result (IsPlanningRefusal inputs bytes (IsPlanRefusal bytes (map rule_text c.deref-2.result.now))) (IsNoAnswer inputs bytes)
    (λ m h. of_plan rules are (subst (λ rs. IsPlanningRefusal inputs bytes (IsPlanRefusal bytes (map rule_text rs)) m) c.deref-2.ensures.value h)) c.visit_plan.ensures.fault
