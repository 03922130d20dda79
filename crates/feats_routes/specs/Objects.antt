-- The JSON objects of routes.
use Rattle.std.specs.Prelude.{ℕ, List, [], ◌∷◌, ◌++◌, Option, Some, None, codes, slice_get}
use Rattle.std.specs.Option.{option_map_or}
use Rattle.json.specs.Token.{Token, begin_array, begin_object, end_array, end_object, key}
use Rattle.cargo_workspaces.specs.Workspaces.{Text, PackageText}
use Rattle.feats_lines.specs.Kinds.{kind_word}
use Rattle.feats_lines.specs.parts.Members.{object_line, optional_member, text_member}
use Rattle.feats_tree.specs.trees.Objects.{node_members}
use Rattle.shortest_routes.specs.Routes.{RouteText}
use Rattle.feats_routes.specs.Kinds.{kind_of}
use Rattle.feats_routes.specs.Shown.{ShownText}

-- How the unit before depends on a unit; nothing for the first.
abbrev pub word_of : ShownText → Option ℕ → ℕ → Option Text
word_of s None node = None
word_of s (Some before) node = Some (kind_word (kind_of s before node))

-- The object of a unit: its package and place, and how the one before depends on it.
abbrev pub step_tokens : ShownText → Option ℕ → ℕ → List Token
step_tokens s before node =
    begin_object ∷ (node_members s.titles node ++ (optional_member (codes "kind") (word_of s before node) ++ end_object ∷ []))

-- The objects of units, of which the first comes after `before`.
abbrev pub steps_from : ShownText → Option ℕ → List ℕ → List Token
steps_from s before [] = []
steps_from s before (node ∷ nodes) = step_tokens s before node ++ steps_from s (Some node) nodes

abbrev pub route_member : ShownText → List ℕ → List Token
route_member s nodes = key (codes "route") ∷ begin_array ∷ (steps_from s None nodes ++ end_array ∷ [])

-- The id of package `p`.
abbrev pub id_at : List PackageText → ℕ → Text
id_at packages p = option_map_or (λ x. x.id) (slice_get packages p) []

abbrev pub members : ShownText → RouteText → List Token
members s r = text_member (codes "member") (id_at s.packages r.owner) ++ route_member s r.nodes

-- The line of a route: an object with the id of the member, and the array of the units.
abbrev pub route_object : ShownText → RouteText → Text
route_object s r = object_line (begin_object ∷ members s r)
