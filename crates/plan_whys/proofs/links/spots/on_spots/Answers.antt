use Rattle.std.proofs.Common.{map, subst}
use Rattle.cargo_plans.specs.plan_starts.PackageVisits.{PairVisit}
use Rattle.plan_whys.specs.StepViews.{spot_text}
use Rattle.plan_whys.specs.links.SpotLinks.{AreSpotsOn}
use Rattle.plan_whys.proofs.LinksSpotLemmas.{members_within, spots_are}
use Rattle.plan_whys.proofs.links.spots.on_spots.Goals as goal

pub spots_of-requires : goal.spots_of-requires
spots_of-requires c =
    members_within c.on-on.result.now c.visited.result.now c.members.result.now c.in_ok-nodes.nodes.items c.deref.result.now
    c.visited.ensures c.members.ensures.members c.members.ensures.size c.in_ok-nodes.ensures c.deref.ensures.value

pub returns : goal.returns
returns c =
    subst (λ (on : PairVisit). AreSpotsOn on (map spot_text c.in_ok-spots.spots.items)) c.on-on.ensures
    (spots_are c.on-on.result.now c.visited.result.now c.members.result.now c.in_ok-nodes.nodes.items c.deref.result.now (map spot_text c.in_ok-spots.spots.items)
    c.visited.ensures c.members.ensures.members c.in_ok-nodes.ensures c.deref.ensures.value c.in_ok-spots.ensures)
