use Rattle.std.proofs.Common.{subst, sym}
use Rattle.feats_answers.specs.AnswerViews.{answer_text}
use Rattle.feats.specs.comparisons.Comparisons.{IsShown}
use Rattle.feats.specs.comparisons.SideView.{side_text}
use Rattle.feats.proofs.comparisons.engine.write_comparison.Goals as goal

pub returns-clause-ok : goal.returns-clause-ok
returns-clause-ok g c =
    let old = side_text c.args.old in
    let new = side_text c.args.new in
    let answer = answer_text c.in_ok-answer.answer in
    let said = subst (λ t. IsShown old new (record { content = t; is_negative = answer.is_negative })) (sym c.deref.ensures.value) c.in_ok-answer.ensures.answer in
    record {
      text = c.deref.result.now;
      is_shown = subst (λ b. IsShown old new (record { content = c.deref.result.now; is_negative = b })) (sym c.write_answer.ensures.negative) said;
      written = c.write_answer.ensures.written;
    }
