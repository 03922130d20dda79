-- The levels above a branch, as a list that grows and shrinks.
use Rattle.std.specs.Prelude.{ℕ, zero, suc, ◌-◌, List, [], ◌∷◌, ◌++◌, flat_map, take, Bool, not}
use Rattle.feats_tree.specs.trees.Lines.{bar, gap, shown_title, star, tee}
use Rattle.feats_tree.specs.trees.Titles.{Text, TitleText}
use Rattle.feats_tree.specs.declared.trees.trees.Branch.{Branch}

-- The levels above a branch, of those of the branch before it.
abbrev pub above : ℕ → List Bool → List Bool
above depth levels = take (depth - 1) levels

-- The levels after a branch: its own is the last, unless it's a root.
abbrev pub with_level : ℕ → List Bool → Bool → List Bool
with_level zero levels last = levels
with_level (suc level) levels last = levels ++ not last ∷ []

-- The marks of a branch, by the levels above it.
abbrev pub marks_by : ℕ → List Bool → Bool → Text
marks_by zero levels last = []
marks_by (suc level) levels last = flat_map bar levels ++ tee (not last)

abbrev pub line_by : List TitleText → Bool → Branch → List Bool → Text
line_by titles first b levels = gap first b.depth ++ (marks_by b.depth (above b.depth levels) b.is_last ++ (shown_title titles b.node ++ (star b.is_again ++ 10 ∷ [])))
