-- The digraph of packages, whose order is the order of packages.
use Rattle.std.specs.Prelude.{◌≡◌, ◌↔◌, ℕ, Contains, List, Bool, Option, ◌&&◌, ◌==◌, filter_map, length, not}
use Rattle.std.specs.List.{find, flat_map, range_with_len}
use Rattle.std.specs.Option.{option_map}
use Rattle.guppy_support.specs.digraphs.Graph.{Graph, IsDigraph}
use Rattle.guppy_support.specs.digraphs.declared.digraph.Edge.{Edge}
use Rattle.guppy_packages.specs.Tables.{AreTables, LinkTable, Tables, is_dev_only}

abbrev pub leads : ℕ → ℕ → LinkTable → Bool
leads from to l = (from == l.from) && (to == l.to)

-- The edge of a link: it orders its two packages, unless it is dev-only.
abbrev pub link_edge : LinkTable → Edge
link_edge l = record { from = l.from; to = l.to; non_dev = not (is_dev_only l) }

-- The edge from `from` to `to`, if a link joins them.
abbrev pub edge_between : List LinkTable → ℕ → ℕ → Option Edge
edge_between links from to = option_map link_edge (find (leads from to) links)

-- The edges of the links between `count` packages, sorted by source and then by target.
abbrev pub edges_between : ℕ → List LinkTable → List Edge
edges_between count links = flat_map (λ from. filter_map (edge_between links from) (range_with_len 0 count)) (range_with_len 0 count)

-- The digraph with packages as nodes and links as edges.
unfoldable pub digraph_of_packages : Tables → Graph
digraph_of_packages t = record { nodes = length t.packages; edges = edges_between (length t.packages) t.links }

-- The digraph is valid, and its edges are exactly those of the links.
abbrev pub LinksAreEdges : Type 0
LinksAreEdges =
    (t : Tables) → AreTables t
    → IsDigraph (digraph_of_packages t) × ((e : Edge) → Contains (digraph_of_packages t).edges e ↔ ((l : LinkTable) × Contains t.links l × (link_edge l ≡ e)))
