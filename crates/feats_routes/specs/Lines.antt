-- The lines of routes.
use Rattle.std.specs.Prelude.{ℕ, List, [], ◌∷◌, ◌++◌, map, Option, Some, None, codes, slice_get}
use Rattle.std.specs.Option.{option_map_or}
use Rattle.cargo_workspaces.specs.Workspaces.{Text}
use Rattle.cargo_workspaces.specs.declared.package.Kind.{Kind}
use Rattle.cargo_workspaces.specs.declared.package.Kind.TheVariants as kind
use Rattle.feats_lines.specs.Lines.{label_of, name_of}
use Rattle.feats_lines.specs.parts.Tables.{RowText, table_of}
use Rattle.feats_tree.specs.trees.Titles.{title_at}
use Rattle.shortest_routes.specs.Routes.{RouteText}
use Rattle.shown_texts.specs.Shown.{escaped}
use Rattle.feats_routes.specs.Kinds.{kind_of}
use Rattle.feats_routes.specs.Shown.{ShownText}

abbrev pub kind_words : Kind → Text
kind_words kind.Normal = codes " depends on it"
kind_words kind.Build = codes " depends on it for builds"
kind_words kind.Development = codes " depends on it for development"

-- Why a unit is in the build: the one before it depends on it, or it is selected.
abbrev pub reason : ShownText → Option ℕ → ℕ → Text
reason s None node = codes "selected"
reason s (Some before) node = title_at s.titles before ++ kind_words (kind_of s before node)

abbrev pub indented : ShownText → ℕ → Text
indented s node = codes "    " ++ title_at s.titles node

abbrev pub row_of : ShownText → Option ℕ → ℕ → RowText
row_of s before node = record { first = indented s node; second = reason s before node; third = [] }

-- The rows of units, of which the first comes after `before`.
abbrev pub rows_from : ShownText → Option ℕ → List ℕ → List RowText
rows_from s before [] = []
rows_from s before (node ∷ nodes) = row_of s before node ∷ rows_from s (Some node) nodes

abbrev pub table_of_nodes : ShownText → List ℕ → Text
table_of_nodes s nodes = table_of (rows_from s None nodes)

-- What a member is called: its name and version, with the source if several packages share both.
abbrev pub member_label : ShownText → ℕ → Text
member_label s p = option_map_or (λ x. escaped (label_of (map name_of s.packages) x)) (slice_get s.packages p) []

abbrev pub head : ShownText → ℕ → Text
head s p = member_label s p ++ codes " (the member)\n"

-- The lines of a route: the member, then a line for each unit, with the reason why it is in the build.
abbrev pub route_lines : ShownText → RouteText → Text
route_lines s r = head s r.owner ++ table_of_nodes s r.nodes
