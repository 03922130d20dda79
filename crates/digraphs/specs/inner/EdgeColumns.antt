-- Edges in two columns: sources, and ends. An end is twice the target, plus one if the edge isn't dev-only.
use Rattle.std.specs.Prelude.{ℕ, ◌/◌, ◌%◌, ◌==◌, List, [], ◌∷◌}
use Rattle.digraphs.specs.declared.digraph.Edge.{Edge}

-- The edge that a source and an end encode.
abbrev pub edge_of : ℕ → ℕ → Edge
edge_of source end = record { from = source; to = end / 2; non_dev = end % 2 == 1 }

abbrev pub edges_in : List ℕ → List ℕ → List Edge
edges_in [] ends = []
edges_in (s ∷ ss) [] = []
edges_in (s ∷ ss) (e ∷ es) = edge_of s e ∷ edges_in ss es
