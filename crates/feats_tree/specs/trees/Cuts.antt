-- Trees without a given limit: where they end, and the line that says so.
use Rattle.std.specs.Prelude.{ℕ, ◌∷◌, Option, Some, None, codes}
use Rattle.json.specs.Token.{begin_object}
use Rattle.feats_lines.specs.parts.Members.{number_member, object_line}
use Rattle.feats_tree.specs.trees.Titles.{Text}

-- The greatest depth of a branch, if no limit is given.
abbrev pub greatest_depth : ℕ
greatest_depth = 1000

abbrev pub limit_of : Option ℕ → ℕ
limit_of None = greatest_depth
limit_of (Some limit) = limit

-- The last line, if the greatest depth cuts the trees.
abbrev pub cut_line : Text
cut_line = codes "(the tree goes on below 1,000 levels: --depth N shows N levels)\n"

-- The last JSON object, if the greatest depth cuts the trees.
abbrev pub cut_object : Text
cut_object = object_line (begin_object ∷ number_member (codes "cut-at-depth") greatest_depth)
