-- The gate of each package link with an optional declaration, in a list by package link.
use Rattle.std.specs.Prelude.{◌≡◌, ℕ, List, Some, length, slice_get}
use Rattle.guppy_packages.specs.Tables.{Tables}
use Rattle.feature_edges.specs.Edges.{IsGate}
use Rattle.feature_edges.specs.inner.Weak.{IsOptionalLink}

-- Node `d` is the gate of package link `k`, if that has an optional declaration.
abbrev pub IsGateNode : Tables → ℕ → ℕ → Type 0
IsGateNode t k d = IsOptionalLink t k → IsGate t k d

-- `nodes` has the gate of each package link with an optional declaration.
pub record AreGateNodes (t : Tables) (nodes : List ℕ) : Type 0 where
  pub long : length nodes ≡ length t.links
  pub each : (k d : ℕ) → slice_get nodes k ≡ Some d → IsGateNode t k d
