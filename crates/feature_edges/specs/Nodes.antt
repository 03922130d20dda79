-- The nodes, package by package: the base, then the named features, then the names of optional declarations.
use Rattle.std.specs.Prelude.{◌≡◌, ℕ, ◌+◌, List, [], ◌∷◌, ◌++◌, Some, map, slice_get, flat_map, length, take}
use Rattle.std.specs.List.{range_with_len}
use Rattle.std.specs.Option.{option_map_or}
use Rattle.guppy_packages.specs.Rows.{Text}
use Rattle.guppy_packages.specs.Tables.{PackageTable, Tables}
use Rattle.feature_labels.specs.Names.{LabelName}
use Rattle.feature_labels.specs.Names.LabelName.{base, named, optional}

-- The labels of a package, in the order of their nodes.
abbrev pub labels_of : PackageTable → List LabelName
labels_of table = base ∷ (map (λ f. named f.name) table.features ++ map (λ d. optional d) table.optional_names)

-- The names of the nodes.
abbrev pub nodes : Tables → List (Text × LabelName)
nodes t = flat_map (λ p. map (λ l. (p.id, l)) (labels_of p)) t.packages

-- The values of `f` for each element, each with the element's number, from `q` on.
abbrev pub spread : {A B : Type 0} → (A → List B) → ℕ → List A → List (ℕ × B)
spread f q [] = []
spread f q (x ∷ xs) = map (λ y. (q, y)) (f x) ++ spread f (q + 1) xs

-- The package number and the label of each node.
abbrev pub node_places : Tables → List (ℕ × LabelName)
node_places t = spread labels_of 0 t.packages

-- Node `n` is this label of package `p`.
abbrev pub NodeAt : Tables → ℕ → ℕ → LabelName → Type 0
NodeAt t n p label = slice_get (node_places t) n ≡ Some (p, label)

-- The number of nodes of the packages before `p`, which is the node of the base of `p`.
abbrev pub first_node : Tables → ℕ → ℕ
first_node t p = length (flat_map labels_of (take p t.packages))

-- The number of named features of package `p`.
abbrev pub features_in : Tables → ℕ → ℕ
features_in t p = option_map_or (λ table. length table.features) (slice_get t.packages p) 0

-- The first node of each package.
abbrev pub first_nodes : Tables → List ℕ
first_nodes t = map (first_node t) (range_with_len 0 (length t.packages))

-- The package of each node.
abbrev pub node_packages : Tables → List ℕ
node_packages t = map (λ x. x.0) (node_places t)
