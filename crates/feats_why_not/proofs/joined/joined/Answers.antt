use Rattle.std.proofs.Common.{ap, inl, inr}
use Rattle.std.proofs.lemmas.List.{nil_from_length}
use Rattle.feats_why_not.specs.inner.Lists.{both, texts_of}
use Rattle.feats_why_not.proofs.Zips.{first_ended, second_ended}
use Rattle.feats_why_not.proofs.joined.joined.Goals as goal

pub returns : goal.returns
returns c =
    elim c.in-None.ensures.steps [
      | inl e ↦ first_ended both _ _ _ _ c.loop-first.invariant (ap texts_of (nil_from_length _ e.1.0))
      | inr e ↦ second_ended both _ _ _ _ c.loop-first.invariant (ap texts_of (nil_from_length _ e.1.0))
    ]
