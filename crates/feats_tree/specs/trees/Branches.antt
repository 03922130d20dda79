-- Trees over links, as lists of branches. A branch is a line of a tree: a node, and how many branches are above it.
use Rattle.std.specs.Prelude.{◌≡◌, ℕ, ◌+◌, ◌≤◌, List, [], ◌∷◌, ◌++◌, map, filter, Bool, true, false, not, ◌&&◌, ◌==◌, Option, Some, None, nat_lt, if◌then◌else◌, All, ⊤}
use Rattle.std.specs.List.{list_any}
use Rattle.feats_tree.specs.trees.Reach.{IsLed}
use Rattle.feats_tree.specs.declared.trees.trees.Branch.{Branch}

-- The ends of the links of a node, in the order of the links.
abbrev pub ends_of : List (ℕ × ℕ) → ℕ → List ℕ
ends_of links node = map (λ l. l.1) (filter (λ l. l.0 == node) links)

-- Whether the links of a node at this depth may be shown. `None` is no limit.
abbrev pub goes_below : Option ℕ → ℕ → Bool
goes_below None depth = true
goes_below (Some limit) depth = nat_lt depth limit

-- Whether the links of the node are shown below one of the branches.
abbrev pub is_expanded_in : Option ℕ → List Branch → ℕ → Bool
is_expanded_in limit branches node = list_any (λ b. b.node == node && goes_below limit b.depth) branches

-- The ends of the links that are shown below a branch of the node at this depth, after the branches `before`: all, or none.
abbrev pub shown_ends : List (ℕ × ℕ) → Option ℕ → List Branch → ℕ → ℕ → List ℕ
shown_ends links limit before node depth = if goes_below limit depth && not (is_expanded_in limit before node) then ends_of links node else []

abbrev pub is_empty : List ℕ → Bool
is_empty [] = true
is_empty (n ∷ ns) = false

-- The branches below one of this depth, of those after it: up to the first that isn't deeper.
abbrev pub below : ℕ → List Branch → List Branch
below depth [] = []
below depth (b ∷ after) = if nat_lt depth b.depth then b ∷ below depth after else []

-- The nodes one level below a branch of this depth, of the branches after it.
abbrev pub children : ℕ → List Branch → List ℕ
children depth after = map (λ b. b.node) (filter (λ b. b.depth == depth + 1) (below depth after))

-- Whether a level goes on: of the branches after a branch, the first that isn't deeper than this level is at this level.
abbrev pub goes_on : ℕ → List Branch → Bool
goes_on level [] = false
goes_on level (b ∷ after) = if nat_lt level b.depth then goes_on level after else b.depth == level

-- Whether the node has links that are shown below none of the branches: all its branches are at the limit.
abbrev pub is_hiding : List (ℕ × ℕ) → Option ℕ → List Branch → ℕ → Bool
is_hiding links limit branches node = not (is_expanded_in limit branches node) && not (is_empty (ends_of links node))

-- Whether the limit cuts the trees: the node of some branch has links that aren't shown.
abbrev pub is_cut : List (ℕ × ℕ) → Option ℕ → List Branch → Bool
is_cut links limit branches = list_any (λ b. is_hiding links limit branches b.node) branches

-- The first branch isn't deeper than this depth, and each other is at most one level deeper than the branch before it.
abbrev pub StepsFrom : ℕ → List Branch → Type 0
StepsFrom depth [] = ⊤
StepsFrom depth (b ∷ after) = (b.depth ≤ depth) × StepsFrom (b.depth + 1) after

-- The branches are those of trees: each is under the nearest branch before it that is one level up, and `is_last` says whether its level ends.
pub record AreTrees (branches : List Branch) : Type 0 where
  pub steps : StepsFrom 0 branches
  pub is_last : (before after : List Branch) (b : Branch) → branches ≡ before ++ b ∷ after → b.is_last ≡ not (goes_on b.depth after)

-- The branch is right between the branches before it and those after it: one level below it are the ends of its node's links, in order,
-- unless they are shown above it already or are too deep.
pub record IsRight (links : List (ℕ × ℕ)) (limit : Option ℕ) (before : List Branch) (b : Branch) (after : List Branch) : Type 0 where
  pub children : children b.depth after ≡ shown_ends links limit before b.node b.depth
  pub is_again : b.is_again ≡ (is_expanded_in limit before b.node && not (is_empty (ends_of links b.node)))

-- The branches of the trees of these roots.
pub record AreBranches (links : List (ℕ × ℕ)) (roots : List ℕ) (limit : Option ℕ) (branches : List Branch) : Type 0 where
  pub are_trees : AreTrees branches
  pub at_roots : map (λ b. b.node) (filter (λ b. b.depth == 0) branches) ≡ roots
  pub led : All (IsLed links roots limit) branches
  pub right : (before after : List Branch) (b : Branch) → branches ≡ before ++ b ∷ after → IsRight links limit before b after
