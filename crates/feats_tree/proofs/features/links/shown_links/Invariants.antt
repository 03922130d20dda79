use Rattle.std.proofs.Common.{◌≡◌, ◌++◌, drop, filter, map}
use Rattle.plan_whys.specs.StepViews.{spot_text}
use Rattle.feats_tree.specs.features.Links.{is_shown}
use Rattle.feats_tree.proofs.features.links.shown_links.Given as goal

abbrev pub invariant-loop-link : goal.invariant-loop-link
invariant-loop-link l =
    let test = is_shown (map spot_text l.spots) in
    filter test l.links ≡ l.shown.items ++ filter test (drop l.link-index l.links)
