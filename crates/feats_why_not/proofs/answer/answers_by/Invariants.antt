use Rattle.std.proofs.Common.{◌≡◌, ◌++◌, map}
use Rattle.std.specs.Iterator.Adapters.{zip_first, zip_second}
use Rattle.std.specs.Slice.Iter.{iter_rest}
use Rattle.plan_whys.specs.StepViews.{found_text}
use Rattle.feats_why_not.specs.inner.Lists.{answer_text, answers_by, optional_texts}
use Rattle.feats_why_not.proofs.answer.answers_by.Given as goal

abbrev pub invariant-loop-message : goal.invariant-loop-message
invariant-loop-message l =
    answers_by (optional_texts l.messages) (map found_text l.founds)
    ≡ map answer_text l.answers.items ++ answers_by (optional_texts (iter_rest (zip_first l.message-iterator))) (map found_text (iter_rest (zip_second l.message-iterator)))
