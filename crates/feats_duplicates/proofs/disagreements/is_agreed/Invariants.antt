use Rattle.std.proofs.Common.{◌≡◌, map, drop}
use Rattle.feats_duplicates.specs.Views.{alone_text}
use Rattle.feats_duplicates.specs.Disagreements.{is_agreed}
use Rattle.feats_duplicates.specs.DisagreementViews.{disagreement_text}
use Rattle.feats_duplicates.proofs.disagreements.is_agreed.Given as goal

abbrev pub invariant-loop-disagreement : goal.invariant-loop-disagreement
invariant-loop-disagreement l =
    is_agreed (map disagreement_text l.disagreements) (alone_text l.alone) ≡ is_agreed (map disagreement_text (drop l.disagreement-index l.disagreements)) (alone_text l.alone)
