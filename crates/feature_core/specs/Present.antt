-- Links that are present for some kind of dependency.
use Rattle.std.specs.Prelude.{◌≡◌, ℕ, List, Some, IsTrue, slice_get}
use Rattle.feature_edges.specs.feature_links.Links.{LinkFacts}
use Rattle.feature_edges.specs.feature_links.Facts.{EdgeFacts, full_link, is_present}

-- The link of each conditional edge is present.
abbrev pub ArePresent : List (ℕ × ℕ × EdgeFacts) → Type 0
ArePresent edges = (k : ℕ) (e : ℕ × ℕ × EdgeFacts) (l : LinkFacts) → slice_get edges k ≡ Some e → full_link e.2 ≡ Some l → IsTrue (is_present l)
