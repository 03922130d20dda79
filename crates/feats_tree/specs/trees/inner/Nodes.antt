-- What is known of each node while its trees are shown.
use Rattle.std.specs.Prelude.{◌≡◌, ℕ, ◌+◌, List, [], ◌∷◌, ◌++◌, length, Bool, false, not, ◌||◌, nat_eq, slice_get, if◌then◌else◌}
use Rattle.std.specs.Option.{option_map_or}
use Rattle.feats_tree.specs.trees.Branches.{is_empty}
use Rattle.feats_tree.specs.declared.trees.nodes.Node.{Node}

-- The ends of the links of a node that aren't shown.
abbrev pub ends_at : List Node → ℕ → List ℕ
ends_at nodes number = option_map_or (λ n. n.ends.items) (slice_get nodes number) []

-- Whether a node has links that aren't shown.
abbrev pub is_hiding_at : List Node → ℕ → Bool
is_hiding_at nodes number = not (is_empty (ends_at nodes number))

-- Whether a node has links and they were shown.
abbrev pub shown_at : List Node → ℕ → Bool
shown_at nodes number = option_map_or (λ n. n.is_shown) (slice_get nodes number) false

-- The number of ends that aren't shown.
abbrev pub total : List Node → ℕ
total [] = 0
total (n ∷ nodes) = length n.ends.items + total nodes

-- Both know the same of each node.
pub record AreSame (old new : List Node) : Type 0 where
  pub ends : (number : ℕ) → ends_at new number ≡ ends_at old number
  pub shown : (number : ℕ) → shown_at new number ≡ shown_at old number

-- A link was added.
pub record AddsLink (old new : List Node) (from to : ℕ) : Type 0 where
  pub ends : (number : ℕ) → ends_at new number ≡ ends_at old number ++ (if nat_eq from number then to ∷ [] else [])
  pub shown : (number : ℕ) → shown_at new number ≡ shown_at old number

-- The ends of the links of a node were taken, to be shown.
pub record TakesEnds (old new : List Node) (number : ℕ) (taken : List ℕ) : Type 0 where
  pub are_ends : taken ≡ ends_at old number
  pub ends : (other : ℕ) → ends_at new other ≡ (if nat_eq number other then [] else ends_at old other)
  pub shown : (other : ℕ) → shown_at new other ≡ (if nat_eq number other then shown_at old other || not (is_empty (ends_at old other)) else shown_at old other)
  pub fewer : total new + length taken ≡ total old
