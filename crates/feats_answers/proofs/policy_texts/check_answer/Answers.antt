use Rattle.std.proofs.Common.{◌≡◌, ap, subst, Option, Some, None, Bool, map}
use Rattle.std.proofs.lemmas.Result.{IfOk-weaker}
use Rattle.std.specs.Borrow.{Bor}
use Rattle.std.specs.Prelude.{option_copied, option_map, Bool}
use Rattle.cargo_plans.specs.WordsView.{words_text}
use Rattle.cargo_workspaces.specs.Workspaces.{Text}
use Rattle.cargo_workspaces.specs.WorkspaceView.{workspace_text}
use Rattle.plan_rows.specs.platforms.HeldSpecs.{holds_on}
use Rattle.plan_rows.specs.platforms.Views.{declared_text}
use Rattle.plan_rows.specs.declared.platforms.holding.HeldSpecs.{HeldSpecs}
use Rattle.cargo_plans.specs.plan_steps.PlanViews.{plan_text}
use Rattle.feats_check.specs.checking.Answers.{IsPolicyAnswer, IsPolicyRefusal}
use Rattle.feats_answers.specs.AnswerViews.{answer_text}
use Rattle.feats_answers.specs.Asked.{asked_text}
use Rattle.feats_answers.specs.PolicyTexts.{IsCheckRefusal, policy_question, printed}
use Rattle.feats_answers.proofs.Says.{err_more}
use Rattle.feats_answers.proofs.policy_texts.check_answer.Goals as goal

-- a platform that is lent
lent : (o : Option (Bor HeldSpecs)) (e : Option HeldSpecs) → option_copied o ≡ e → option_map (λ held. holds_on held.now) o ≡ option_map holds_on e
lent None e is = ap (option_map holds_on) is
lent (Some held) e is = ap (option_map holds_on) is

pub returns-clause-answer : goal.returns-clause-answer
returns-clause-answer c =
    let w = workspace_text c.args.workspace.now in
    let words = words_text holds_on c.args.words.now in
    let plan = plan_text c.args.plan.now in
    let asked = asked_text c.args.asked in
    let file = c.args.policy.file.now in
    IfOk-weaker c.answer_by.result _ _ (λ a is. record {
      every = option_map holds_on c.in_ok-every.every;
      is_every = c.in_ok-every.ensures;
      is_answer = subst (λ (every : Option (Text → Bool)). IsPolicyAnswer w words plan (policy_question asked file every) (printed (answer_text a))) (lent c.as_ref.result c.in_ok-every.every c.as_ref.ensures.value) is;
    }) c.answer_by.ensures.answer

pub returns-clause-fault : goal.returns-clause-fault
returns-clause-fault c =
    let w = workspace_text c.args.workspace.now in
    let words = words_text holds_on c.args.words.now in
    let plan = plan_text c.args.plan.now in
    let asked = asked_text c.args.asked in
    let file = c.args.policy.file.now in
    let specs = map declared_text c.args.specs.now in
    let lends = lent c.as_ref.result c.in_ok-every.every c.as_ref.ensures.value in
    err_more c.answer_by.result (IsPolicyRefusal w words plan (policy_question asked file (option_map (λ held. holds_on held.now) c.as_ref.result))) (IsCheckRefusal asked w specs words plan file c.args.policy.every_choice)
    (λ m says. record {
      every = option_map holds_on c.in_ok-every.every;
      is_every = c.in_ok-every.ensures;
      is_refusal = subst (λ (every : Option (Text → Bool)). IsPolicyRefusal w words plan (policy_question asked file every) m) lends says;
    }) c.answer_by.ensures.fault
