use Rattle.std.proofs.Common.{◌∙◌, ◌<◌, map, subst}
use Rattle.std.proofs.lemmas.List.{length-map}
use Rattle.digraphs.specs.Bits.{has}
use Rattle.plan_whys.specs.StepViews.{spot_text}
use Rattle.feats_tree.specs.features.Roots.{is_asked}
use Rattle.feats_tree.proofs.RootLemmas.{same_numbers}
use Rattle.feats_tree.proofs.features.roots.asked_spots.Goals as goal

pub returns : goal.returns
returns c =
    let spots = map spot_text c.args.spots.now in
    c.in_ok-roots.ensures
    ∙ same_numbers (has c.in_ok-asked.asked) (is_asked spots c.args.links.now) spots
    (λ k below. c.in_ok-asked.ensures.marks k (subst (λ n. k < n) (length-map c.args.spots.now spot_text) below))
