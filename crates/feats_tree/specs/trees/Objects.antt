-- The JSON objects of trees.
use Rattle.std.specs.Prelude.{ℕ, List, [], ◌∷◌, ◌++◌, flat_map, codes, slice_get}
use Rattle.std.specs.Option.{option_map_or}
use Rattle.json.specs.Token.{Token, begin_object}
use Rattle.feats_lines.specs.parts.Members.{flag_member, number_member, object_line, optional_member, text_member}
use Rattle.feats_tree.specs.trees.Titles.{AtText, DetailText, Text, TitleText, part, placed}
use Rattle.feats_tree.specs.declared.trees.trees.Branch.{Branch}

abbrev pub at_members : AtText → List Token
at_members (placed name) = text_member (codes "place") name
at_members (part feature dependency side) =
    optional_member (codes "feature") feature ++ (optional_member (codes "dependency") dependency ++ text_member (codes "side") side)

abbrev pub detail_members : DetailText → List Token
detail_members d = text_member (codes "package") d.id ++ (text_member (codes "name") d.name ++ (text_member (codes "version") d.version ++ at_members d.at))

-- The members of a node; nothing, if it has no title.
abbrev pub node_members : List TitleText → ℕ → List Token
node_members titles node = option_map_or (λ t. detail_members t.detail) (slice_get titles node) []

abbrev pub members : List TitleText → Branch → List Token
members titles b =
    number_member (codes "depth") b.depth ++ (node_members titles b.node ++ flag_member (codes "again") b.is_again)

abbrev pub object_of : List TitleText → Branch → Text
object_of titles b = object_line (begin_object ∷ members titles b)

-- A line for each branch.
abbrev pub branch_objects : List TitleText → List Branch → Text
branch_objects titles branches = flat_map (object_of titles) branches
