-- Lists whose items have numbers.
use Rattle.std.specs.Prelude.{ℕ, ◌+◌, List, [], ◌∷◌, ◌++◌, Option, None}
use Rattle.std.specs.Option.{option_or}

-- The lists that `f` gives for each item and its number, joined; the first item has number `k`.
abbrev pub joined_from : {X Y : Type 0} → (ℕ → X → List Y) → ℕ → List X → List Y
joined_from f k [] = []
joined_from f k (x ∷ xs) = f k x ++ joined_from f (k + 1) xs

-- The first value that `f` gives for an item and its number; the first item has number `k`.
abbrev pub first_from : {X Y : Type 0} → (ℕ → X → Option Y) → ℕ → List X → Option Y
first_from f k [] = None
first_from f k (x ∷ xs) = option_or (f k x) (first_from f (k + 1) xs)

-- The first value that `f` gives for an item.
abbrev pub first_some : {X Y : Type 0} → (X → Option Y) → List X → Option Y
first_some f [] = None
first_some f (x ∷ xs) = option_or (f x) (first_some f xs)
