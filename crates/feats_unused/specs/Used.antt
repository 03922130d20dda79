-- The features of a package that other packages use.
use Rattle.std.specs.Prelude.{List, [], ◌∷◌, Contains, flat_map}
use Rattle.guppy_packages.specs.Items.{Item, feature_item, item_of, optional_item, slash_item}
use Rattle.cargo_workspaces.specs.Workspaces.{FeatureText, Text}

-- The feature of the same package that an item turns on.
abbrev pub own_feature : Item → List Text
own_feature (feature_item f) = f ∷ []
own_feature (optional_item name) = []
own_feature (slash_item name feature weak) = []

-- The features of the same package that a feature turns on.
abbrev pub turned_on : FeatureText → List Text
turned_on g = flat_map (λ t. own_feature (item_of t)) g.items

-- A feature is USED if another package asks for it, or if a used feature turns it on. So the used features are the least set with both.
pub data IsUsed (asked : List Text) (features : List FeatureText) : Text → Type 0 where
  by_request : (f : Text) → Contains asked f → IsUsed asked features f
  by_feature : (g : FeatureText) (f : Text) → Contains features g → IsUsed asked features g.name → Contains (turned_on g) f → IsUsed asked features f
