-- The node of each package's feature `default`, in a list by package.
use Rattle.std.specs.Prelude.{◌≡◌, ℕ, ◌<◌, ◌↔◌, List, Some, codes, length, slice_get}
use Rattle.guppy_packages.specs.Tables.{Tables}
use Rattle.feature_labels.specs.Names.LabelName.{named}
use Rattle.feature_edges.specs.Nodes.{NodeAt}

-- The feature `default` of package `p` is node `d`, unless `d` is 0: then there is none.
abbrev pub IsDefaultNode : Tables → ℕ → ℕ → Type 0
IsDefaultNode t p d = (n : ℕ) → NodeAt t n p (named (codes "default")) ↔ ((n ≡ d) × (0 < n))

-- `nodes` has the node of each package's feature `default`.
pub record AreDefaultNodes (t : Tables) (nodes : List ℕ) : Type 0 where
  pub long : length nodes ≡ length t.packages
  pub each : (p d : ℕ) → slice_get nodes p ≡ Some d → IsDefaultNode t p d
