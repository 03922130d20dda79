use Rattle.std.proofs.Common.{◌≡◌, ◌++◌, drop, flat_map, map}
use Rattle.std.specs.String.{string_bytes}
use Rattle.shortest_routes.specs.Routes.{route_text}
use Rattle.feats_routes.specs.Lines.{route_lines}
use Rattle.feats_routes.specs.Shown.{shown_text}
use Rattle.feats_routes.proofs.lines.route_lines.Given as goal

abbrev pub invariant-loop-route : goal.invariant-loop-route
invariant-loop-route g l =
    let lines = route_lines (shown_text g.P.Platform.holds l.shown) in
    flat_map lines (map route_text l.routes) ≡ string_bytes l.text ++ flat_map lines (map route_text (drop l.route-index l.routes))
