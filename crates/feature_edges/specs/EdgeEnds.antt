-- The ends of edges: as pairs of nodes, and as edges of a digraph.
use Rattle.std.specs.Prelude.{ℕ, List, map, not}
use Rattle.std.specs.List.{zip}
use Rattle.digraphs.specs.declared.digraph.Edge.{Edge}
use Rattle.feature_links.specs.Facts.{EdgeFacts, is_dev_edge}

-- The two nodes of each edge of a digraph.
abbrev pub pairs_of : List Edge → List (ℕ × ℕ)
pairs_of edges = map (λ e. (e.from, e.to)) edges

-- The edges of a digraph, each with its value.
abbrev pub built_edges : List Edge → List EdgeFacts → List (ℕ × ℕ × EdgeFacts)
built_edges edges facts = map (λ p. (p.0.from, p.0.to, p.1)) (zip edges facts)

-- The digraph's edge: its two nodes, and whether it is not dev-only.
abbrev pub end_of : ℕ × ℕ × EdgeFacts → Edge
end_of e = record { from = e.0; to = e.1; non_dev = not (is_dev_edge e.2) }
