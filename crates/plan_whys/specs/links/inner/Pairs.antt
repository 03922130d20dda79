-- The pairs of numbers that become links.
use Rattle.std.specs.Prelude.{◌≡◌, ◌⊎◌, ℕ, ◌<◌, ◌≤◌, ◌^◌, ◌-◌, List, [], ◌∷◌, Bool, Some, All, Contains, flat_map, if◌then◌else◌, nat_lt}
use Rattle.cargo_plans.specs.plan_units.Units.{UnitText}
use Rattle.walk_engine.specs.Walks.{Way}
use Rattle.plan_whys.specs.links.Links.{index_of}
use Rattle.plan_whys.specs.links.SpotLinks.{counts}
use Rattle.plan_whys.specs.links.UnitLinks.{entry_of}

-- The indexes of the numbers of a pair are `a` and `b`.
pub record Joins (numbers : List ℕ) (pairs : List (ℕ × ℕ)) (a b : ℕ) : Type 0 where
  pub pair : ℕ × ℕ
  pub is_pair : Contains pairs pair
  pub first : index_of numbers pair.0 ≡ Some a
  pub second : index_of numbers pair.1 ≡ Some b

-- Both numbers of each pair are below `size`.
abbrev pub AreBelow : ℕ → List (ℕ × ℕ) → Type 0
AreBelow size pairs = All (λ p. (p.0 < size) × (p.1 < size)) pairs

-- By the first number, then by the second.
abbrev pub IsUpTo : ℕ × ℕ → ℕ × ℕ → Type 0
IsUpTo a b = (a.0 < b.0) ⊎ ((a.0 ≡ b.0) × (a.1 ≤ b.1))

-- A number, or the largest one below `limit`.
abbrev pub capped : ℕ → ℕ → ℕ
capped limit n = if nat_lt n limit then n else limit - 1

-- The entry of a unit as a `usize`.
abbrev pub capped_entry : ℕ → UnitText → ℕ
capped_entry count u = capped (2 ^ 64) (entry_of count u)

-- The ends of the ways that count.
abbrev pub ends_if : (ℕ → Bool) → Way → List (ℕ × ℕ)
ends_if M w = if counts M w then (w.start, w.far) ∷ [] else []

abbrev pub counted_ends : (ℕ → Bool) → List Way → List (ℕ × ℕ)
counted_ends M ways = flat_map (ends_if M) ways
