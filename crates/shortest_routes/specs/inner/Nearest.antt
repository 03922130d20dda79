-- The nearest of several nodes, and the routes from there.
use Rattle.std.specs.Prelude.{◌≡◌, ℕ, ◌+◌, ◌<◌, ◌≤◌, ◌==◌, List, [], ◌∷◌, ◌++◌, map, length, Bool, false, Option, Some, None, All, AllPairs, Contains, is_some, nat_lt, if◌then◌else◌, option_and_then, slice_get, slice_index_or}
use Rattle.std.specs.Option.{option_map_or}
use Rattle.shortest_routes.specs.Chains.{IsRoute}
use Rattle.shortest_routes.specs.Routes.{RouteText}
use Rattle.shortest_routes.specs.inner.Searches.{HasStep}
use Rattle.shortest_routes.specs.inner.Steps.{AreSteps, step_at}
use Rattle.shortest_routes.specs.declared.step.Step.{Step}

-- The distance of a node; 0, if it has no step.
abbrev pub distance_at : List (Option Step) → ℕ → ℕ
distance_at steps node = option_map_or (λ s. s.distance) (step_at steps node) 0

abbrev pub next_at : List (Option Step) → ℕ → Option ℕ
next_at steps node = option_and_then (λ s. s.next) (step_at steps node)

-- They are the steps of some links and targets.
abbrev pub AreAnySteps : List (Option Step) → Type 0
AreAnySteps steps = (links : List (ℕ × ℕ)) × ((targets : List ℕ) × AreSteps links targets steps)

-- Whether the node has a step, and a lower distance than the other, if there is another.
abbrev pub is_nearer : List (Option Step) → Option ℕ → ℕ → Bool
is_nearer steps None node = is_some (step_at steps node)
is_nearer steps (Some other) node = option_map_or (λ s. nat_lt s.distance (distance_at steps other)) (step_at steps node) false

-- The nearer of the two.
abbrev pub nearer : List (Option Step) → Option ℕ → ℕ → Option ℕ
nearer steps best node = if is_nearer steps best node then Some node else best

-- The nearest start of an owner, after this start.
abbrev pub noted : List (Option Step) → List ℕ → ℕ → ℕ → Option ℕ → Option ℕ
noted steps owners start owner best = if option_map_or (λ o. o == owner) (slice_get owners start) false then nearer steps best start else best

-- The node is the nearest of those with the property; `None` if none of them has a step.
abbrev pub IsNearest : List (Option Step) → (ℕ → Type 0) → Option ℕ → Type 0
IsNearest steps P None = (node : ℕ) → P node → step_at steps node ≡ None
IsNearest steps P (Some best) = P best × ((s : Step) × (step_at steps best ≡ Some s) × ((node : ℕ) (t : Step) → P node → step_at steps node ≡ Some t → s.distance ≤ t.distance))

-- The nearest starts of owners have steps.
abbrev pub HaveSteps : List (Option Step) → List (Option ℕ) → Type 0
HaveSteps steps nearest = (owner start : ℕ) → owner < length nearest → slice_index_or nearest owner None ≡ Some start → HasStep steps start

-- The nodes are those of a route from this start, as long as its step says.
abbrev pub IsRouteBy : List (Option Step) → ℕ → List ℕ → Type 0
IsRouteBy steps start nodes = (links : List (ℕ × ℕ)) (targets : List ℕ) → AreSteps links targets steps → IsRoute links targets start nodes × (length nodes ≡ distance_at steps start + 1)

-- The route of an owner from a start is appended, if there is a start.
abbrev pub AppendsRoute : List (Option Step) → ℕ → Option ℕ → List RouteText → List RouteText → Type 0
AppendsRoute steps owner None old new = new ≡ old
AppendsRoute steps owner (Some start) old new = (nodes : List ℕ) × (IsRouteBy steps start nodes) × (new ≡ old ++ record { owner = owner; nodes = nodes } ∷ [])

-- The route is that of its owner, which is below `count`, from its nearest start.
pub record IsRouteOf (steps : List (Option Step)) (nearest : List (Option ℕ)) (count : ℕ) (r : RouteText) : Type 0 where
  pub below : r.owner < count
  pub start : ℕ
  pub is_start : slice_index_or nearest r.owner None ≡ Some start
  pub is_route : IsRouteBy steps start r.nodes

-- The routes of the owners below `count` from their nearest starts, in order.
pub record AreRoutesTo (steps : List (Option Step)) (nearest : List (Option ℕ)) (count : ℕ) (routes : List RouteText) : Type 0 where
  pub ascend : AllPairs (λ a b. a.owner < b.owner) routes
  pub each : All (IsRouteOf steps nearest count) routes
  pub all : (owner start : ℕ) → owner < count → slice_index_or nearest owner None ≡ Some start → Contains (map (λ r. r.owner) routes) owner
