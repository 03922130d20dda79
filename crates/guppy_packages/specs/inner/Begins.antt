-- The number of each package's first link. Links are ordered by the packages that they leave.
use Rattle.std.specs.Prelude.{◌≡◌, ◌↔◌, ◌<◌, ◌≤◌, ◌+◌, ℕ, List, Some, length, slice_get, slice_index}
use Rattle.guppy_packages.specs.Tables.{LinkTable}

-- Exactly the links before `place` leave packages before `from`.
pub record IsBegin (links : List LinkTable) (from place : ℕ) : Type 0 where
  pub within : place ≤ length links
  pub before : (k : ℕ) (l : LinkTable) → slice_get links k ≡ Some l → (k < place) ↔ (l.from < from)

-- Each entry of `begins` is the number of its package's first link.
abbrev pub AreBegun : List LinkTable → List ℕ → Type 0
AreBegun links begins = (p : ℕ) → p < length begins → IsBegin links p (slice_index begins p)

-- `begins` has an entry for each package, followed by the end of all links.
pub record AreAllBegun (packages : ℕ) (links : List LinkTable) (begins : List ℕ) : Type 0 where
  pub long : length begins ≡ packages + 1
  pub begun : AreBegun links begins
