-- The packages with a feature in a set, as a set.
use Rattle.std.specs.Prelude.{◌≡◌, ◌↔◌, ◌<◌, ℕ, List, Bool, IsTrue, length}
use Rattle.digraphs.specs.Bits.{has}
use Rattle.guppy_packages.specs.Tables.{Tables}
use Rattle.feature_graph.specs.Packages.{has_member_of}

-- exactly the packages with a member
pub record AreMemberPackages (t : Tables) (members packages : List Bool) : Type 0 where
  pub size : length packages ≡ length t.packages
  pub each : (p : ℕ) → IsTrue (has packages p) ↔ ((p < length t.packages) × IsTrue (has_member_of t members p))
