-- The requests over a feature graph, from their numbers.
use Rattle.std.specs.Prelude.{ℕ, zero, suc, Bool, true, false, List, [], ◌∷◌, ◌==◌, ◌&&◌, ◌||◌, Option, None, Some, length, nat_lt, option_and_then, slice_index, if◌then◌else◌}
use Rattle.std.specs.List.{list_all}
use Rattle.std.specs.Option.{option_map}
use Rattle.guppy_packages.specs.declared.direction.DependencyDirection.{DependencyDirection}
use Rattle.guppy_packages.specs.declared.direction.DependencyDirection.TheVariants.{Forward, Reverse}
use Rattle.walk_engine.specs.declared.walks.Half.{Half}
use Rattle.walk_engine.specs.declared.walks.Half.TheVariants.{Full, Required, Optional}
use Rattle.walk_engine.specs.declared.walks.Step.{Step}
use Rattle.walk_engine.specs.declared.walks.StepReason.{StepReason}
use Rattle.walk_engine.specs.declared.walks.StepReason.TheVariants.{Initial, Edge, Offer}
use Rattle.feature_graph_c.specs.binary.Words.{counted}

-- 0 is forward, and 1 is reverse.
abbrev pub direction_in : ℕ → Option DependencyDirection
direction_in n = if n == 0 then Some Forward else (if n == 1 then Some Reverse else None)

-- 0 is the full link, 1 the required half, and 2 the optional half.
abbrev pub half_in : ℕ → Option Half
half_in n = if n == 0 then Some Full else (if n == 1 then Some Required else (if n == 2 then Some Optional else None))

-- 0 is an initial node, 1 an unconditional edge; 2, 3 and 4 are the three offers of an edge.
abbrev pub reason_in : ℕ → ℕ → Option StepReason
reason_in n e =
    if n == 0 then Some Initial else (
    if n == 1 then Some (Edge e) else (
    if n == 2 then Some (Offer e Full) else (
    if n == 3 then Some (Offer e Required) else (
    if n == 4 then Some (Offer e Optional) else None))))

-- Each number is below `count`.
abbrev pub are_below : ℕ → List ℕ → Bool
are_below count ns = list_all (λ n. nat_lt n count) ns

-- The value, if no number is left.
abbrev pub at_end : {X : Type 0} → X → List ℕ → Option X
at_end x [] = Some x
at_end x (n ∷ ns) = None

-- A list of nodes, and the numbers after it, if there are `count` nodes.
abbrev pub nodes_in : ℕ → List ℕ → Option (List ℕ × List ℕ)
nodes_in count ws = option_and_then (λ p. if are_below count p.0 then Some p else None) (counted ws)

-- A direction and a list of nodes, and the numbers after them.
abbrev pub start_in : ℕ → List ℕ → Option (DependencyDirection × (List ℕ × List ℕ))
start_in count [] = None
start_in count (d ∷ ws) = option_and_then (λ direction. option_map (λ p. (direction, p)) (nodes_in count ws)) (direction_in d)

-- A request for a view of some nodes: a direction and the nodes.
abbrev pub view_in : ℕ → List ℕ → Option (DependencyDirection × List ℕ)
view_in count ws = option_and_then (λ s. at_end (s.0, s.1.0) s.1.1) (start_in count ws)

-- The answers to offers: each is refused, each is accepted, or there is a number for each edge.
pub data Choice : Type 0 where
  refuse : Choice
  accept : Choice
  by_edge : List ℕ → Choice

-- 1 accepts the full link or the required half, 2 the optional half, and 3 each.
abbrev pub accepts_by : ℕ → Half → Bool
accepts_by n Full = (n == 1) || (n == 3)
accepts_by n Required = (n == 1) || (n == 3)
accepts_by n Optional = (n == 2) || (n == 3)

-- Whether half `h` of edge `e` is accepted.
abbrev pub accepts : Choice → ℕ → Half → Bool
accepts refuse e h = false
accepts accept e h = true
accepts (by_edge table) e h = accepts_by (slice_index table e) h

-- The answers to the offers of a graph with `edges` edges.
abbrev pub choice_in : ℕ → List ℕ → Option Choice
choice_in edges [] = None
choice_in edges (n ∷ []) = if n == 0 then Some refuse else (if n == 1 then Some accept else None)
choice_in edges (n ∷ (count ∷ table)) = if (n == 2) && ((count == edges) && ((length table == edges) && are_below 4 table)) then Some (by_edge table) else None

-- A request for a walk: a direction, the initial nodes, and the answers.
pub record WalkRequest : Type 0 where
  pub direction : DependencyDirection
  pub initials : List ℕ
  pub choice : Choice

abbrev pub walk_request : DependencyDirection → List ℕ → Choice → WalkRequest
walk_request direction initials choice = record { direction = direction; initials = initials; choice = choice }

abbrev pub walk_in : ℕ → ℕ → List ℕ → Option WalkRequest
walk_in nodes edges ws = option_and_then (λ s. option_map (walk_request s.0 s.1.0) (choice_in edges s.1.1)) (start_in nodes ws)

-- A step, three numbers, and the numbers after it.
abbrev pub step_in : List ℕ → Option (Step × List ℕ)
step_in [] = None
step_in (node ∷ []) = None
step_in (node ∷ (r ∷ [])) = None
step_in (node ∷ (r ∷ (e ∷ ws))) = option_map (λ reason. (record { node = node; reason = reason }, ws)) (reason_in r e)

-- An offer, two numbers, and the numbers after it.
abbrev pub offer_in : List ℕ → Option ((ℕ × Half) × List ℕ)
offer_in [] = None
offer_in (e ∷ []) = None
offer_in (e ∷ (h ∷ ws)) = option_map (λ half. ((e, half), ws)) (half_in h)

-- `count` items that `one` reads, and the numbers after them.
abbrev pub many_in : {X : Type 0} → (List ℕ → Option (X × List ℕ)) → ℕ → List ℕ → Option (List X × List ℕ)
many_in one zero ws = Some ([], ws)
many_in one (suc n) ws = option_and_then (λ x. option_map (λ p. (x.0 ∷ p.0, p.1)) (many_in one n x.1)) (one ws)

-- A list of items that `one` reads, after its count, and the numbers after it.
abbrev pub list_in : {X : Type 0} → (List ℕ → Option (X × List ℕ)) → List ℕ → Option (List X × List ℕ)
list_in one [] = None
list_in one (n ∷ ws) = many_in one n ws

-- A request for a check: a direction, the initial nodes, the steps, and the refused offers.
pub record CheckRequest : Type 0 where
  pub direction : DependencyDirection
  pub initials : List ℕ
  pub steps : List Step
  pub refused : List (ℕ × Half)

-- A list of steps and a list of offers, and nothing more.
abbrev pub lists_in : List ℕ → Option (List Step × List (ℕ × Half))
lists_in ws = option_and_then (λ steps. option_and_then (λ refused. at_end (steps.0, refused.0) refused.1) (list_in offer_in steps.1)) (list_in step_in ws)

abbrev pub check_request : DependencyDirection → List ℕ → List Step × List (ℕ × Half) → CheckRequest
check_request direction initials lists = record { direction = direction; initials = initials; steps = lists.0; refused = lists.1 }

abbrev pub check_in : ℕ → List ℕ → Option CheckRequest
check_in nodes ws = option_and_then (λ s. option_map (check_request s.0 s.1.0) (lists_in s.1.1)) (start_in nodes ws)
