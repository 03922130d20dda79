-- Graphs in the language of Graphviz.
use Rattle.std.specs.Prelude.{ℕ, ◌+◌, ◌==◌, List, [], ◌∷◌, ◌++◌, Bool, ◌||◌, if◌then◌else◌, flat_map, codes}
use Rattle.std.specs.Fmt.{decimal}
use Rattle.std.specs.List.{list_any}
use Rattle.shown_texts.specs.Shown.{escaped as shown}

abbrev pub Text : Type 0
Text = List ℕ

-- A node: the number of its cluster, and its title.
pub record NodeText : Type 0 where
  pub cluster : ℕ
  pub title : Text

-- The lists that `f` gives for each item and its number, joined; the first item has number `k`.
abbrev pub joined_from : {X Y : Type 0} → (ℕ → X → List Y) → ℕ → List X → List Y
joined_from f k [] = []
joined_from f k (x ∷ xs) = f k x ++ joined_from f (k + 1) xs

-- Quotes (34) and backslashes (92).
abbrev pub is_special : ℕ → Bool
is_special byte = (byte == 34) || (byte == 92)

-- A text between quotes: a backslash is before each quote and each backslash.
abbrev pub escaped : Text → Text
escaped text = flat_map (λ byte. if is_special byte then 92 ∷ byte ∷ [] else byte ∷ []) text

-- The text as it is shown: control characters in it are escaped.
abbrev pub quoted : Text → Text
quoted text = codes "\"" ++ escaped (shown text) ++ codes "\""

-- `    n3 [label = "syn 1.0.107"];`
abbrev pub node_line : ℕ → Text → Text
node_line n title = codes "    n" ++ decimal n ++ codes " [label = " ++ quoted title ++ codes "];\n"

-- The lines of the nodes in cluster `k`; the first node has number `n`.
abbrev pub nodes_in : ℕ → ℕ → List NodeText → Text
nodes_in k n nodes = joined_from (λ n node. if node.cluster == k then node_line n node.title else []) n nodes

-- Cluster `k` with its label and its nodes.
abbrev pub block_text : List NodeText → ℕ → Text → Text
block_text nodes k label =
    codes "  subgraph cluster_" ++ decimal k ++ codes " {\n    label = " ++ quoted label ++ codes ";\n" ++ nodes_in k 0 nodes ++ codes "  }\n"

-- The same; nothing, if it has no node.
abbrev pub cluster_text : List NodeText → ℕ → Text → Text
cluster_text nodes k label = if list_any (λ node. node.cluster == k) nodes then block_text nodes k label else []

-- `  n3 -> n8;`
abbrev pub link_line : ℕ × ℕ → Text
link_line link = codes "  n" ++ decimal link.0 ++ codes " -> n" ++ decimal link.1 ++ codes ";\n"

abbrev pub links_text : List (ℕ × ℕ) → Text
links_text links = flat_map link_line links

-- THE GRAPH: its clusters, of which those without nodes are left out, then its links.
abbrev pub dot_text : List Text → List NodeText → List (ℕ × ℕ) → Text
dot_text clusters nodes links =
    codes "digraph feats {\n" ++ joined_from (cluster_text nodes) 0 clusters ++ links_text links ++ codes "}\n"
