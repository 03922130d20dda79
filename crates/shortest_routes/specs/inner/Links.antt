-- The links that lead to each node, as lists.
use Rattle.std.specs.Prelude.{◌↔◌, ℕ, List, [], Contains, slice_get}
use Rattle.std.specs.Global.{Vec}
use Rattle.std.specs.Option.{option_map_or}

-- The nodes from which a link leads to a node.
abbrev pub nodes_before : List (Vec ℕ) → ℕ → List ℕ
nodes_before lists node = option_map_or (λ l. l.items) (slice_get lists node) []

-- The lists have exactly the nodes from which the links lead.
abbrev pub AreBefore : List (ℕ × ℕ) → List (Vec ℕ) → Type 0
AreBefore links lists = (from to : ℕ) → Contains (nodes_before lists to) from ↔ Contains links (from, to)
