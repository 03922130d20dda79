use Rattle.std.proofs.Common.{ap, inl, inr, map}
use Rattle.std.proofs.lemmas.List.{nil_from_length}
use Rattle.std.specs.Prelude.{string_bytes}
use Rattle.feats_why_not.specs.inner.Lists.{optional_texts, pair_head}
use Rattle.feats_why_not.proofs.Zips.{first_ended, second_ended}
use Rattle.feats_why_not.proofs.texts.heads_by.Goals as goal

pub returns : goal.returns
returns c =
    elim c.in-None.ensures.steps [
      | inl e ↦ first_ended (pair_head c.args.form) _ _ _ _ c.loop-title.invariant (ap (map string_bytes) (nil_from_length _ e.1.0))
      | inr e ↦ second_ended (pair_head c.args.form) _ _ _ _ c.loop-title.invariant (ap optional_texts (nil_from_length _ e.1.0))
    ]
