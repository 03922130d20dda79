use Rattle.std.proofs.Common.{None, ap, map}
use Rattle.std.proofs.lemmas.List.{get_or_default}
use Rattle.shortest_routes.specs.Routes.{route_text}
use Rattle.shortest_routes.proofs.RouteLemmas.{routes_begun, routes_more}
use Rattle.shortest_routes.proofs.routes.routes_by.Goals as goal

pub loop-owner-init : goal.loop-owner-init
loop-owner-init c = routes_begun c.args.table.now c.args.nearest.now (map route_text c.new-routes.result.items) (ap (map route_text) c.new-routes.ensures.items)

pub loop-owner-preserved : goal.loop-owner-preserved
loop-owner-preserved c =
    routes_more c.args.table.now c.args.nearest.now c.loop-owner.owner (map route_text c.loop-owner.routes.items) (map route_text c.push_route.new.routes.items) c.loop-owner.invariant
    _ (get_or_default c.args.nearest.now c.loop-owner.owner _ None c.loop-owner-test.true) c.in_ok-push_route.ensures
