-- The lines of trees.
use Rattle.std.specs.Prelude.{ℕ, zero, suc, List, [], ◌∷◌, ◌++◌, flat_map, Bool, true, false, not, ◌&&◌, ◌==◌, codes, encode_utf8_all, if◌then◌else◌}
use Rattle.feats_tree.specs.trees.Branches.{goes_on}
use Rattle.feats_tree.specs.trees.Titles.{Text, TitleText, title_at}
use Rattle.feats_tree.specs.declared.trees.trees.Branch.{Branch}
use Rattle.shown_texts.specs.Shown.{escaped}

-- The mark of a level above a branch, which goes on after it or doesn't.
abbrev pub bar : Bool → Text
bar true = encode_utf8_all (codes "│   ")
bar false = codes "    "

-- The mark of a branch, whose level goes on after it or doesn't.
abbrev pub tee : Bool → Text
tee true = encode_utf8_all (codes "├── ")
tee false = encode_utf8_all (codes "└── ")

-- For each of the levels from 1 to this one, whether it goes on.
abbrev pub levels : ℕ → List Branch → List Bool
levels zero after = []
levels (suc level) after = levels level after ++ goes_on (suc level) after ∷ []

-- The marks before the title of a branch at this depth. A root has none.
abbrev pub marks : ℕ → List Branch → Text
marks zero after = []
marks (suc level) after = flat_map bar (levels level after) ++ tee (goes_on (suc level) after)

abbrev pub star : Bool → Text
star again = if again then codes " (*)" else []

-- An empty line is before each root but the first.
abbrev pub gap : Bool → ℕ → Text
gap first depth = if depth == 0 && not first then 10 ∷ [] else []

-- The title of a node: control characters in it are escaped.
abbrev pub shown_title : List TitleText → ℕ → Text
shown_title titles node = escaped (title_at titles node)

abbrev pub line_of : List TitleText → Bool → Branch → List Branch → Text
line_of titles first b after = gap first b.depth ++ (marks b.depth after ++ (shown_title titles b.node ++ (star b.is_again ++ 10 ∷ [])))

-- The lines of branches, of which the first is or isn't the first of all.
abbrev pub lines_from : List TitleText → Bool → List Branch → Text
lines_from titles first [] = []
lines_from titles first (b ∷ after) = line_of titles first b after ++ lines_from titles false after

-- A line for each branch, as `cargo tree` prints it.
abbrev pub branch_lines : List TitleText → List Branch → Text
branch_lines titles branches = lines_from titles true branches
