-- Chosen edges by their numbers.
use Rattle.std.specs.Prelude.{ℕ, List, Bool, false, slice_get}
use Rattle.std.specs.Option.{option_map_or}
use Rattle.feature_edges.specs.feature_links.declared.edge.EdgeChoice.{EdgeChoice}
use Rattle.feature_edges.specs.feature_links.Facts.{EdgeFacts}
use Rattle.feature_edges.specs.Choices.{is_chosen}

-- Whether the edge with this number is chosen.
abbrev pub is_chosen_at : EdgeChoice → List EdgeFacts → ℕ → Bool
is_chosen_at which facts number = option_map_or (is_chosen which) (slice_get facts number) false
