use Rattle.std.proofs.Common.{ap, inl, inr, map}
use Rattle.std.proofs.lemmas.List.{nil_from_length}
use Rattle.plan_whys.specs.StepViews.{found_text}
use Rattle.feats_why_not.specs.inner.Lists.{answer_by, optional_texts}
use Rattle.feats_why_not.proofs.Zips.{first_ended, second_ended}
use Rattle.feats_why_not.proofs.answer.answers_by.Goals as goal

pub returns : goal.returns
returns c =
    elim c.in-None.ensures.steps [
      | inl e ↦ first_ended answer_by _ _ _ _ c.loop-message.invariant (ap optional_texts (nil_from_length _ e.1.0))
      | inr e ↦ second_ended answer_by _ _ _ _ c.loop-message.invariant (ap (map found_text) (nil_from_length _ e.1.0))
    ]
