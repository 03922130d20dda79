-- The features of a package that no other package uses.
use Rattle.std.specs.Prelude.{List, [], ◌∷◌}
use Rattle.cargo_workspaces.specs.Workspaces.{FeatureText, Text}
use Rattle.feats_unused.specs.Used.{IsUsed}

-- THE UNUSED among some features, in their order: exactly those that aren't used.
pub data AreUnused (asked : List Text) (features : List FeatureText) : List FeatureText → List Text → Type 0 where
  none : AreUnused asked features [] []
  used : (f : FeatureText) (fs : List FeatureText) (names : List Text) → IsUsed asked features f.name → AreUnused asked features fs names → AreUnused asked features (f ∷ fs) names
  unused : (f : FeatureText) (fs : List FeatureText) (names : List Text) → ¬ IsUsed asked features f.name → AreUnused asked features fs names → AreUnused asked features (f ∷ fs) (f.name ∷ names)
