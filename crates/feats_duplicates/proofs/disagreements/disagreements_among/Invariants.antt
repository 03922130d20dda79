use Rattle.std.proofs.Common.{◌≡◌, ◌++◌, filter, map, drop, not}
use Rattle.feats_duplicates.specs.Alone.{AloneText}
use Rattle.feats_duplicates.specs.Views.{alone_text, member_plan_text}
use Rattle.feats_duplicates.specs.Disagreements.{agrees, disagreement}
use Rattle.feats_duplicates.specs.DisagreementViews.{disagreement_text}
use Rattle.feats_duplicates.proofs.disagreements.disagreements_among.Given as goal

abbrev pub invariant-loop-alone : goal.invariant-loop-alone
invariant-loop-alone l =
    let test = λ (a : AloneText). not (agrees (map alone_text l.after) (map member_plan_text l.plans) a) in
    map disagreement (filter test (map alone_text l.list)) ≡ map disagreement_text l.found.items ++ map disagreement (filter test (map alone_text (drop l.alone-index l.list)))
