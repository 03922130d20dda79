use Rattle.std.proofs.Common.{ap, inl, inr, map}
use Rattle.std.proofs.lemmas.List.{nil_from_length}
use Rattle.feats_why_not.specs.PartView.{part_text}
use Rattle.feats_why_not.specs.inner.Lists.{answer_text}
use Rattle.feats_why_not.proofs.Zips.{first_pair_ended, second_pair_ended}
use Rattle.feats_why_not.proofs.told.with_answers.Goals as goal

pub returns : goal.returns
returns c =
    elim c.in-None.ensures.steps [
      | inl e ↦ first_pair_ended _ _ _ _ c.loop-part.invariant (ap (map part_text) (nil_from_length _ e.1.0))
      | inr e ↦ second_pair_ended _ _ _ _ c.loop-part.invariant (ap (map answer_text) (nil_from_length _ e.1.0))
    ]
