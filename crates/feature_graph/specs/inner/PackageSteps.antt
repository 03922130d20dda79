-- The packages that an iterator over a set hasn't returned yet.
use Rattle.std.specs.Prelude.{◌<◌, ℕ, List, [], Option, Some, None, All, IfSome, length}
use Rattle.feature_graph.specs.PackageViews.{beside, with_members}
use Rattle.feature_graph.specs.Values.{Set}

-- the packages with a member among these; none if there are no numbers
abbrev pub packages_left : Set → Option (List ℕ) → List (Set × ℕ)
packages_left s None = []
packages_left s (Some numbers) = beside s (with_members s numbers)

-- the numbers are package numbers
abbrev pub AreWithin : Set → Option (List ℕ) → Type 0
AreWithin s numbers = IfSome numbers (All (λ p. p < length s.graph.tables.packages))
