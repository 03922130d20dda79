-- The state of the second pass: for each package the last link that leads to it, and the first link of the current package.
use Rattle.std.specs.Prelude.{◌≡◌, ℕ, ◌≤◌, List, Some, slice_get}
use Rattle.guppy_packages.specs.Tables.{LinkTable}
use Rattle.guppy_packages.specs.inner.Begins.{IsBegin}

-- Each link leaves `from` or an earlier package. Those that leave `from` begin at `first`, and `last` has their numbers at their
-- targets.
pub record AreNoted (from : ℕ) (links : List LinkTable) (last : List ℕ) (first : ℕ) : Type 0 where
  pub each : (k : ℕ) (l : LinkTable) → slice_get links k ≡ Some l → (l.from ≤ from) × (l.from ≡ from → slice_get last l.to ≡ Some k)
  pub begin : IsBegin links from first
