use Rattle.std.proofs.Common.{◌∙◌, ◌++◌, ◌∷◌, [], Bool, ap, cond, map, not}
use Rattle.feats_duplicates.proofs.Lists.{mapped_more}
use Rattle.feats_duplicates.specs.Alone.{AloneText}
use Rattle.feats_duplicates.specs.Views.{alone_text, member_plan_text}
use Rattle.feats_duplicates.specs.Disagreements.{agrees, disagreement}
use Rattle.feats_duplicates.specs.DisagreementViews.{disagreement_text}
use Rattle.feats_duplicates.proofs.disagreements.disagreements_among.Goals as goal

pub loop-alone-preserved : goal.loop-alone-preserved
loop-alone-preserved c =
    let test = λ (a : AloneText). not (agrees (map alone_text c.args.after.now) (map member_plan_text c.args.plans.now) a) in
    let alone = c.alone-item.result in
    mapped_more alone_text test disagreement c.args.list.now c.loop-alone.alone-index alone _ _ _
    c.loop-alone-test.true c.alone-item.is c.loop-alone.invariant
    (c.in_ok-push_if.ensures ∙ ap (λ (b : Bool). map disagreement_text c.loop-alone.found.items ++ cond (not b) (disagreement (alone_text alone) ∷ []) []) c.agrees.ensures)
