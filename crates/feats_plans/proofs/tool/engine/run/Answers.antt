use Rattle.feats_answers.specs.AnswerViews.{answer_text}
use Rattle.feats_plans.specs.Inputs.{inputs_text}
use Rattle.feats_check.specs.checking.WarningViews.{string_texts}
use Rattle.feats_plans.proofs.Writing.{is_shown}
use Rattle.feats_plans.proofs.tool.engine.run.Goals as goal

pub returns-clause-ok : goal.returns-clause-ok
returns-clause-ok g c = record {
  text = c.deref-2.result.now;
  is_answer = is_shown (inputs_text c.args.arguments.now c.args.files.now) (g.R.ByteInput.left c.args.reader.now) c.in_ok-bytes.bytes.items c.deref.result.now (answer_text c.in_ok-answer.field-0.answer) (string_texts c.in_ok-answer.field-0.warnings.items) c.deref-2.result.now c.write_answer-ended.result.is_negative
      c.in_ok-bytes.ensures.bytes c.deref.ensures.value c.in_ok-answer.ensures.answer c.deref-2.ensures.value c.write_answer-ended.ensures.negative;
  written = c.write_answer-ended.ensures.written;
}
