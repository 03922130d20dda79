-- The shortest routes from the starts of each owner.
use Rattle.std.specs.Prelude.{◌≡◌, ℕ, ◌<◌, List, map, All, AllPairs, Contains, Some, slice_get}
use Rattle.shortest_routes.specs.Chains.{IsRoute, IsShortest}
use Rattle.shortest_routes.specs.declared.routes.Route.{Route}

-- A route as numbers: its owner, and its nodes.
pub record RouteText : Type 0 where
  pub owner : ℕ
  pub nodes : List ℕ

abbrev pub route_text : Route → RouteText
route_text r = record { owner = r.owner; nodes = r.nodes.items }

-- The node is a start of the owner.
abbrev pub IsStartOf : List ℕ → List ℕ → ℕ → ℕ → Type 0
IsStartOf owners starts owner node = Contains starts node × (slice_get owners node ≡ Some owner)

-- THE SHORTEST ROUTES: one for each owner from whose starts a route leads, in the order of the owners.
pub record AreShortestRoutes (links : List (ℕ × ℕ)) (targets owners starts : List ℕ) (routes : List RouteText) : Type 0 where
  pub ascend : AllPairs (λ a b. a.owner < b.owner) routes
  pub shortest : All (λ r. IsShortest links targets (IsStartOf owners starts r.owner) r.nodes) routes
  pub all : (owner node : ℕ) (nodes : List ℕ) → IsStartOf owners starts owner node → IsRoute links targets node nodes → Contains (map (λ r. r.owner) routes) owner
