-- Links the other way round.
use Rattle.std.specs.Prelude.{◌≡◌, ℕ, ◌<◌, ◌≤◌, ◌⊎◌}

abbrev pub turned : ℕ × ℕ → ℕ × ℕ
turned link = (link.1, link.0)

-- The first link starts before the second, or at the same node and ends no later.
abbrev pub IsNoLater : ℕ × ℕ → ℕ × ℕ → Type 0
IsNoLater a b = (a.0 < b.0) ⊎ ((a.0 ≡ b.0) × (a.1 ≤ b.1))
