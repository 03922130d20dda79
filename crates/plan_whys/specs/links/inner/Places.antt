-- The index of each number, as a table.
use Rattle.std.specs.Prelude.{◌≡◌, ℕ, ◌<◌, List, [], ◌∷◌, Bool, Option, Some, None, if◌then◌else◌, option_and_then, slice_get}
use Rattle.std.specs.Option.{option_or}
use Rattle.plan_whys.specs.links.Links.{index_of}

-- A place with `index` noted in it, if it is the one and has no index.
abbrev pub noted : Bool → ℕ → Option ℕ → Option ℕ
noted here index place = option_or place (if here then Some index else None)

-- Each number below `size` has its index in the table.
abbrev pub ArePlaces : ℕ → List ℕ → List (Option ℕ) → Type 0
ArePlaces size numbers places = (k : ℕ) → k < size → slice_get places k ≡ Some (index_of numbers k)

-- The index that the table has of number `k`.
abbrev pub place_in : List (Option ℕ) → ℕ → Option ℕ
place_in places k = option_and_then (λ p. p) (slice_get places k)

-- The pair of two indexes, if both are there.
abbrev pub both : Option ℕ → Option ℕ → List (ℕ × ℕ)
both (Some a) (Some b) = (a, b) ∷ []
both (Some a) None = []
both None b = []
