use Rattle.std.proofs.Common.{◌≡◌, ◌++◌, drop, flat_map, map}
use Rattle.shortest_routes.specs.Routes.{route_text}
use Rattle.feats_routes.specs.Objects.{route_object}
use Rattle.feats_routes.specs.Shown.{shown_text}
use Rattle.feats_routes.proofs.objects.route_objects.Given as goal

abbrev pub invariant-loop-route : goal.invariant-loop-route
invariant-loop-route g l =
    let object = route_object (shown_text g.P.Platform.holds l.shown) in
    flat_map object (map route_text l.routes) ≡ l.text.items ++ flat_map object (map route_text (drop l.route-index l.routes))
