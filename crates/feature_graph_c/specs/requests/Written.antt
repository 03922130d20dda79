-- Requests as numbers. A request that is written so is read as itself.
use Rattle.std.specs.Prelude.{◌≡◌, ℕ, List, [], ◌∷◌, ◌++◌, Some, IsTrue, length, flat_map}
use Rattle.guppy_packages.specs.declared.direction.DependencyDirection.{DependencyDirection}
use Rattle.guppy_packages.specs.declared.direction.DependencyDirection.TheVariants.{Forward, Reverse}
use Rattle.walk_engine.specs.declared.walks.Half.{Half}
use Rattle.walk_engine.specs.declared.walks.Step.{Step}
use Rattle.feature_graph_c.specs.requests.Contents.{half_number, reason_number, reason_edge}
use Rattle.feature_graph_c.specs.requests.Requests.{Choice, refuse, accept, by_edge, WalkRequest, CheckRequest, are_below, view_in, walk_in, check_in}

abbrev pub direction_number : DependencyDirection → ℕ
direction_number Forward = 0
direction_number Reverse = 1

-- A direction and some nodes, before the other numbers.
abbrev pub start_numbers : DependencyDirection → List ℕ → List ℕ → List ℕ
start_numbers direction nodes rest = direction_number direction ∷ (length nodes ∷ (nodes ++ rest))

abbrev pub choice_numbers : Choice → List ℕ
choice_numbers refuse = 0 ∷ []
choice_numbers accept = 1 ∷ []
choice_numbers (by_edge table) = 2 ∷ (length table ∷ table)

abbrev pub step_numbers : Step → List ℕ
step_numbers s = s.node ∷ (reason_number s.reason ∷ (reason_edge s.reason ∷ []))

abbrev pub offer_numbers : ℕ × Half → List ℕ
offer_numbers o = o.0 ∷ (half_number o.1 ∷ [])

abbrev pub list_numbers : List Step → List (ℕ × Half) → List ℕ
list_numbers steps refused = length steps ∷ (flat_map step_numbers steps ++ length refused ∷ flat_map offer_numbers refused)

-- A choice for a graph with `edges` edges: a table has a number below 4 for each edge.
abbrev pub IsChoice : ℕ → Choice → Type 0
IsChoice edges refuse = Unit {0}
IsChoice edges accept = Unit {0}
IsChoice edges (by_edge table) = (length table ≡ edges) × IsTrue (are_below 4 table)

abbrev pub ReadsViews : Type 0
ReadsViews = (nodes : ℕ) (q : DependencyDirection × List ℕ) → IsTrue (are_below nodes q.1) → view_in nodes (start_numbers q.0 q.1 []) ≡ Some q

abbrev pub ReadsWalks : Type 0
ReadsWalks = (nodes edges : ℕ) (q : WalkRequest) → IsTrue (are_below nodes q.initials) → IsChoice edges q.choice → walk_in nodes edges (start_numbers q.direction q.initials (choice_numbers q.choice)) ≡ Some q

abbrev pub ReadsChecks : Type 0
ReadsChecks = (nodes : ℕ) (q : CheckRequest) → IsTrue (are_below nodes q.initials) → check_in nodes (start_numbers q.direction q.initials (list_numbers q.steps q.refused)) ≡ Some q
