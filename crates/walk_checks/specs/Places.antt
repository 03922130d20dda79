-- The places of nodes in the steps of an explanation.
use Rattle.std.specs.Prelude.{◌≡◌, ◌<◌, ℕ, List, Option, None, Some, slice_get, slice_index_or, IsFalse, MatchOption}
use Rattle.walk_engine.specs.declared.walks.Step.{Step}
use Rattle.walk_engine.specs.Walks.{is_in}
use Rattle.walk_engine.specs.Explanations.{nodes_of}
use Rattle.walk_checks.specs.declared.places.StepPlaces.{StepPlaces}

-- The node's place, or `None` if the table has none.
abbrev pub place_of : StepPlaces → ℕ → Option ℕ
place_of table node = slice_index_or table.places.items node None

-- A node's place is that of one of its steps, and a node below `count` without a place has no step.
abbrev pub ArePlaces : ℕ → List Step → StepPlaces → Type 0
ArePlaces count steps table = (node : ℕ) → MatchOption (place_of table node) (node < count → IsFalse (is_in (nodes_of steps) node)) (λ place. slice_get (nodes_of steps) place ≡ Some node)
