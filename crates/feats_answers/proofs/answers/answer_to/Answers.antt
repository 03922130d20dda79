use Rattle.std.proofs.Common.{◌≡◌, map, subst, sym, Result, Ok}
use Rattle.std.specs.Prelude.{IfOk, IfErr}
use Rattle.std.proofs.lemmas.Result.{IfOk-weaker}
use Rattle.cargo_plans.specs.Plans.{WordsText}
use Rattle.cargo_plans.specs.WordsView.{words_text}
use Rattle.cargo_workspaces.specs.Workspaces.{WorkspaceText}
use Rattle.cargo_workspaces.specs.WorkspaceView.{workspace_text}
use Rattle.plan_rows.specs.platforms.HeldSpecs.{holds_on}
use Rattle.cargo_plans.specs.plan_steps.Plans.{PlanText}
use Rattle.cargo_plans.specs.plan_steps.PlanViews.{plan_text}
use Rattle.feats_files.specs.Messages.{Says}
use Rattle.feats_files.specs.declared.fault.Fault.{Fault}
use Rattle.feats_words.specs.Views.{question_text}
use Rattle.feats_words.specs.declared.request.Question.{Question}
use Rattle.feats_words.specs.declared.request.Question.TheVariants as question
use Rattle.feats_answers.specs.AnswerViews.{answer_text}
use Rattle.feats_answers.specs.Answers.{Answers, IsPositive, Refuses}
use Rattle.feats_answers.specs.Asked.{AskedText, asked_text}
use Rattle.feats_answers.specs.PolicyTexts.{IsCheckAnswer, IsCheckRefusal}
use Rattle.feats_answers.specs.ReportTexts.{IsReportText}
use Rattle.feats_answers.specs.SpecTexts.{IsSpecText, places}
use Rattle.feats_answers.specs.WhyNotTexts.{IsWhyNotAnswer}
use Rattle.feats_answers.specs.declared.answer.Answer.{Answer}
use Rattle.feats_answers.proofs.answers.answer_to.Goals as goal

-- the answer to the question that was found
answers : (asked : AskedText) (w : WorkspaceText) (words : WordsText) (build : PlanText) (found one : Question) (r : Result Answer Fault) → found ≡ one
    → IfOk r (λ a. Answers (question_text one) asked w words build (answer_text a)) → IfOk r (λ a. Answers (question_text found) asked w words build (answer_text a))
answers asked w words build found one r is h = subst (λ (q : Question). IfOk r (λ a. Answers (question_text q) asked w words build (answer_text a))) (sym is) h

-- and its refusal
refuses : (asked : AskedText) (w : WorkspaceText) (words : WordsText) (build : PlanText) (found one : Question) (r : Result Answer Fault) → found ≡ one
    → IfErr r (λ f. Says f (Refuses (question_text one) asked w words build)) → IfErr r (λ f. Says f (Refuses (question_text found) asked w words build))
refuses asked w words build found one r is h = subst (λ (q : Question). IfErr r (λ f. Says f (Refuses (question_text q) asked w words build))) (sym is) h

pub returns-in_ok-plan_answer-in-Plan-clause-answer : goal.returns-in_ok-plan_answer-in-Plan-clause-answer
returns-in_ok-plan_answer-in-Plan-clause-answer c =
    answers (asked_text c.args.asked) (workspace_text c.args.workspace.now) (words_text holds_on c.args.words.now) (plan_text c.args.plan.now) c.args.asked.arguments.now.question question.Plan
    (Ok c.in_ok-plan_answer-in-Plan.field-0) c.in-Plan.is c.in_ok-plan_answer-in-Plan.ensures

pub returns-in-Summary-clause-answer : goal.returns-in-Summary-clause-answer
returns-in-Summary-clause-answer c =
    answers (asked_text c.args.asked) (workspace_text c.args.workspace.now) (words_text holds_on c.args.words.now) (plan_text c.args.plan.now) c.args.asked.arguments.now.question question.Summary
    c.summary_answer.result c.in-Summary.is c.summary_answer.ensures.answer

pub returns-in-Summary-clause-fault : goal.returns-in-Summary-clause-fault
returns-in-Summary-clause-fault c =
    refuses (asked_text c.args.asked) (workspace_text c.args.workspace.now) (words_text holds_on c.args.words.now) (plan_text c.args.plan.now) c.args.asked.arguments.now.question question.Summary
    c.summary_answer.result c.in-Summary.is c.summary_answer.ensures.fault

pub returns-in-Routes-clause-answer : goal.returns-in-Routes-clause-answer
returns-in-Routes-clause-answer c =
    answers (asked_text c.args.asked) (workspace_text c.args.workspace.now) (words_text holds_on c.args.words.now) (plan_text c.args.plan.now) c.args.asked.arguments.now.question (question.Routes c.in-Routes.word)
    c.routes_answer.result c.in-Routes.is c.routes_answer.ensures.answer

pub returns-in-Why-clause-answer : goal.returns-in-Why-clause-answer
returns-in-Why-clause-answer c =
    answers (asked_text c.args.asked) (workspace_text c.args.workspace.now) (words_text holds_on c.args.words.now) (plan_text c.args.plan.now) c.args.asked.arguments.now.question (question.Why c.in-Why.feature c.in-Why.all)
    c.why_answer.result c.in-Why.is c.why_answer.ensures.answer

pub returns-in_ok-specs_answer-in-Specs-clause-answer : goal.returns-in_ok-specs_answer-in-Specs-clause-answer
returns-in_ok-specs_answer-in-Specs-clause-answer c =
    let asked = asked_text c.args.asked in
    let words = words_text holds_on c.args.words.now in
    answers asked (workspace_text c.args.workspace.now) words (plan_text c.args.plan.now) c.args.asked.arguments.now.question question.Specs
    (Ok c.in_ok-specs_answer-in-Specs.field-0) c.in-Specs.is
    (subst (λ declared. IsPositive (IsSpecText asked.arguments.format declared (places asked.targets words.host words.targets)) (answer_text c.in_ok-specs_answer-in-Specs.field-0)) c.requires.specs c.in_ok-specs_answer-in-Specs.ensures)

pub returns-in_ok-unused_answer-in-Unused-clause-answer : goal.returns-in_ok-unused_answer-in-Unused-clause-answer
returns-in_ok-unused_answer-in-Unused-clause-answer c =
    answers (asked_text c.args.asked) (workspace_text c.args.workspace.now) (words_text holds_on c.args.words.now) (plan_text c.args.plan.now) c.args.asked.arguments.now.question question.Unused
    (Ok c.in_ok-unused_answer-in-Unused.field-0) c.in-Unused.is c.in_ok-unused_answer-in-Unused.ensures

pub returns-in_ok-duplicates_answer-in-Duplicates-clause-answer : goal.returns-in_ok-duplicates_answer-in-Duplicates-clause-answer
returns-in_ok-duplicates_answer-in-Duplicates-clause-answer c =
    answers (asked_text c.args.asked) (workspace_text c.args.workspace.now) (words_text holds_on c.args.words.now) (plan_text c.args.plan.now) c.args.asked.arguments.now.question (question.Duplicates c.in-Duplicates.alone c.in-Duplicates.places)
    (Ok c.in_ok-duplicates_answer-in-Duplicates.field-0) c.in-Duplicates.is c.in_ok-duplicates_answer-in-Duplicates.ensures

pub returns-in-List-clause-answer : goal.returns-in-List-clause-answer
returns-in-List-clause-answer c =
    answers (asked_text c.args.asked) (workspace_text c.args.workspace.now) (words_text holds_on c.args.words.now) (plan_text c.args.plan.now) c.args.asked.arguments.now.question (question.List c.in-List.word)
    c.list_answer.result c.in-List.is c.list_answer.ensures.answer

pub returns-in-WhyNot-clause-answer : goal.returns-in-WhyNot-clause-answer
returns-in-WhyNot-clause-answer c =
    let w = workspace_text c.args.workspace.now in
    let words = words_text holds_on c.args.words.now in
    let build = plan_text c.args.plan.now in
    let asked = asked_text c.args.asked in
    answers asked w words build c.args.asked.arguments.now.question (question.WhyNot c.in-WhyNot.word) c.why_not_answer.result c.in-WhyNot.is
    (subst (λ declared. IfOk c.why_not_answer.result (λ a. IsWhyNotAnswer asked.arguments.format w declared words build c.in-WhyNot.word.now (answer_text a))) c.requires.specs c.why_not_answer.ensures.answer)

pub returns-in-Tree-clause-answer : goal.returns-in-Tree-clause-answer
returns-in-Tree-clause-answer c =
    answers (asked_text c.args.asked) (workspace_text c.args.workspace.now) (words_text holds_on c.args.words.now) (plan_text c.args.plan.now) c.args.asked.arguments.now.question (question.Tree c.in-Tree.invert)
    c.answer_to_edge_tree.result c.in-Tree.is c.answer_to_edge_tree.ensures.answer

pub returns-in-Tree-clause-fault : goal.returns-in-Tree-clause-fault
returns-in-Tree-clause-fault c =
    refuses (asked_text c.args.asked) (workspace_text c.args.workspace.now) (words_text holds_on c.args.words.now) (plan_text c.args.plan.now) c.args.asked.arguments.now.question (question.Tree c.in-Tree.invert)
    c.answer_to_edge_tree.result c.in-Tree.is c.answer_to_edge_tree.ensures.fault

pub returns-in_ok-answer_to_edge_dot-in-Dot-clause-answer : goal.returns-in_ok-answer_to_edge_dot-in-Dot-clause-answer
returns-in_ok-answer_to_edge_dot-in-Dot-clause-answer c =
    answers (asked_text c.args.asked) (workspace_text c.args.workspace.now) (words_text holds_on c.args.words.now) (plan_text c.args.plan.now) c.args.asked.arguments.now.question question.Dot
    (Ok c.in_ok-answer_to_edge_dot-in-Dot.field-0) c.in-Dot.is c.in_ok-answer_to_edge_dot-in-Dot.ensures

pub returns-in_ok-report_answer-in-Report-clause-answer : goal.returns-in_ok-report_answer-in-Report-clause-answer
returns-in_ok-report_answer-in-Report-clause-answer c =
    let asked = asked_text c.args.asked in
    let w = workspace_text c.args.workspace.now in
    let words = words_text holds_on c.args.words.now in
    let build = plan_text c.args.plan.now in
    answers asked w words build c.args.asked.arguments.now.question question.Report (Ok c.in_ok-report_answer-in-Report.field-0) c.in-Report.is
    (subst (λ declared. IsPositive (IsReportText asked.targets w declared words build) (answer_text c.in_ok-report_answer-in-Report.field-0)) c.requires.specs c.in_ok-report_answer-in-Report.ensures)

pub returns-in-Check-clause-answer : goal.returns-in-Check-clause-answer
returns-in-Check-clause-answer c =
    let w = workspace_text c.args.workspace.now in
    let words = words_text holds_on c.args.words.now in
    let build = plan_text c.args.plan.now in
    let asked = asked_text c.args.asked in
    answers asked w words build c.args.asked.arguments.now.question (question.Check c.in-Check.file c.in-Check.every_choice _) c.check_answer.result c.in-Check.is
    (subst (λ declared. IfOk c.check_answer.result (λ a. IsCheckAnswer asked w declared words build c.in-Check.file.now c.in-Check.every_choice (answer_text a))) c.requires.specs c.check_answer.ensures.answer)

pub returns-in-Check-clause-fault : goal.returns-in-Check-clause-fault
returns-in-Check-clause-fault c =
    let w = workspace_text c.args.workspace.now in
    let words = words_text holds_on c.args.words.now in
    let build = plan_text c.args.plan.now in
    let asked = asked_text c.args.asked in
    refuses asked w words build c.args.asked.arguments.now.question (question.Check c.in-Check.file c.in-Check.every_choice _) c.check_answer.result c.in-Check.is
    (subst (λ declared. IfErr c.check_answer.result (λ f. Says f (IsCheckRefusal asked w declared words build c.in-Check.file.now c.in-Check.every_choice))) c.requires.specs c.check_answer.ensures.fault)

pub returns-in-Slim-clause-answer : goal.returns-in-Slim-clause-answer
returns-in-Slim-clause-answer c =
    answers (asked_text c.args.asked) (workspace_text c.args.workspace.now) (words_text holds_on c.args.words.now) (plan_text c.args.plan.now) c.args.asked.arguments.now.question (question.Slim c.in-Slim._file)
    c.slim_answer.result c.in-Slim.is c.slim_answer.ensures.answer

pub returns-in-Slim-clause-fault : goal.returns-in-Slim-clause-fault
returns-in-Slim-clause-fault c =
    refuses (asked_text c.args.asked) (workspace_text c.args.workspace.now) (words_text holds_on c.args.words.now) (plan_text c.args.plan.now) c.args.asked.arguments.now.question (question.Slim c.in-Slim._file)
    c.slim_answer.result c.in-Slim.is c.slim_answer.ensures.fault
