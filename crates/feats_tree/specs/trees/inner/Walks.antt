-- A walk over trees: the branches that were shown, and those that wait.
use Rattle.std.specs.Prelude.{◌≡◌, ℕ, ◌≤◌, List, [], ◌∷◌, ◌++◌, map, filter, reverse, Bool, false, not, ◌&&◌, ◌==◌, Option, IsTrue, IsFalse, if◌then◌else◌, ⊤}
use Rattle.std.specs.List.{AllByRecursion}
use Rattle.feats_tree.specs.trees.Branches.{IsRight, StepsFrom, ends_of, goes_below, goes_on, is_empty, is_expanded_in}
use Rattle.feats_tree.specs.trees.Reach.{IsLed}
use Rattle.feats_tree.specs.trees.inner.Nodes.{TakesEnds, ends_at, shown_at}
use Rattle.feats_tree.specs.declared.trees.nodes.Node.{Node}
use Rattle.feats_tree.specs.declared.trees.trees.Branch.{Branch}
use Rattle.feats_tree.specs.declared.trees.waiting.Waiting.{Waiting}

-- A branch that waits: its marks aren't known.
abbrev pub branch_at : ℕ → ℕ → Branch
branch_at depth node = record { node = node; depth = depth; is_last = false; is_again = false }

-- The branches that wait, the next first.
abbrev pub waits_of : List Waiting → List Branch
waits_of waiting = map (λ w. branch_at w.depth w.node) (reverse waiting)

-- Whether the first branch is at this level.
abbrev pub begins_at : ℕ → List Branch → Bool
begins_at depth [] = false
begins_at depth (b ∷ after) = b.depth == depth

-- No branch is deeper than the one before it, and the first isn't deeper than this depth.
abbrev pub FallsFrom : ℕ → List Branch → Type 0
FallsFrom depth [] = ⊤
FallsFrom depth (b ∷ after) = (b.depth ≤ depth) × FallsFrom b.depth after

-- Each branch is right after those before it, and its mark says whether it's the last.
abbrev pub AreRight : List (ℕ × ℕ) → Option ℕ → List Branch → List Branch → List Branch → Type 0
AreRight links limit before [] waits = ⊤
AreRight links limit before (b ∷ shown) waits =
    IsRight links limit before b (shown ++ waits) × (b.is_last ≡ not (goes_on b.depth (shown ++ waits))) × AreRight links limit (before ++ b ∷ []) shown waits

-- The branches that were shown are right, if those that wait follow with theirs.
pub record IsWalk (links : List (ℕ × ℕ)) (roots : List ℕ) (limit : Option ℕ) (nodes : List Node) (shown waits : List Branch) : Type 0 where
  pub right : AreRight links limit [] shown waits
  pub steps : StepsFrom 0 (shown ++ waits)
  pub falls : (depth : ℕ) × FallsFrom depth waits
  pub led : AllByRecursion (IsLed links roots limit) (shown ++ waits)
  pub at_roots : map (λ b. b.node) (filter (λ b. b.depth == 0) (shown ++ waits)) ≡ roots
  pub ends : (node : ℕ) → ends_at nodes node ≡ (if is_expanded_in limit shown node then [] else ends_of links node)
  pub again : (node : ℕ) → shown_at nodes node ≡ (is_expanded_in limit shown node && not (is_empty (ends_of links node)))

-- The branch of `next`, which waited before `waits`.
abbrev pub shown_branch : List Node → List Branch → ℕ → ℕ → Branch
shown_branch nodes waits depth node = record { node = node; depth = depth; is_last = not (begins_at depth waits); is_again = shown_at nodes node }

-- The ends that are shown below a node at this depth were taken.
pub record Takes (limit : Option ℕ) (old new : List Node) (depth node : ℕ) (taken : List ℕ) : Type 0 where
  pub allowed : IsTrue (goes_below limit depth) → TakesEnds old new node taken
  pub refused : IsFalse (goes_below limit depth) → (taken ≡ []) × (new ≡ old)
