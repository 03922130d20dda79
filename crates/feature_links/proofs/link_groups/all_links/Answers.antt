use Rattle.std.proofs.Common.{◌∙◌, ◌∷◌, ◌++◌, [], ap, sym}
use Rattle.feature_links.proofs.LinkOrderLemmas.{range_more}
use Rattle.feature_links.proofs.link_groups.all_links.Goals as goal

pub loop-ix-preserved : goal.loop-ix-preserved
loop-ix-preserved c =
    let n = c.loop-ix.ix in
    c.in_ok-push.ensures.items ∙ ap (λ z. z ++ n ∷ []) c.loop-ix.invariant ∙ sym (range_more n)
