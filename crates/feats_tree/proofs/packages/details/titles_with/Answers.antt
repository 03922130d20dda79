use Rattle.std.proofs.Common.{ap, inl, inr, map}
use Rattle.std.proofs.lemmas.List.{nil_from_length}
use Rattle.std.specs.String.{string_bytes}
use Rattle.feats_tree.specs.trees.Titles.{detail_text}
use Rattle.feats_tree.specs.packages.Titles.{titled}
use Rattle.feats_tree.proofs.Zips.{first_ended, second_ended}
use Rattle.feats_tree.proofs.packages.details.titles_with.Goals as goal

pub returns : goal.returns
returns c =
    elim c.in-None.ensures.steps [
      | inl e ↦ first_ended titled _ _ _ _ c.loop-title.invariant (ap (map string_bytes) (nil_from_length _ e.1.0))
      | inr e ↦ second_ended titled _ _ _ _ c.loop-title.invariant (ap (map detail_text) (nil_from_length _ e.1.0))
    ]
