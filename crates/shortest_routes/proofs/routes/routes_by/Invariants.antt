use Rattle.std.proofs.Common.{map}
use Rattle.shortest_routes.specs.Routes.{route_text}
use Rattle.shortest_routes.specs.inner.Nearest.{AreRoutesTo}
use Rattle.shortest_routes.proofs.routes.routes_by.Given as goal

abbrev pub invariant-loop-owner : goal.invariant-loop-owner
invariant-loop-owner l = AreRoutesTo l.table l.nearest l.owner (map route_text l.routes.items)
