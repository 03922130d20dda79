-- Items of features that turn nothing on.
use Rattle.std.specs.Prelude.{List, [], ◌∷◌, Bool, true, false, ◌||◌, filter, flat_map, is_some, map, not}
use Rattle.std.specs.List.{list_any}
use Rattle.std.specs.Str.{bytes_eq}
use Rattle.guppy_packages.specs.Items.{Item, feature_item, item_of, optional_item, slash_item}
use Rattle.cargo_workspaces.specs.Workspaces.{DeclarationText, FeatureText, PackageText, Text}

-- The dependency that an item turns on, if it is optional: `dep:d` and `d/f` turn `d` on, `d?/f` doesn't.
abbrev pub dependency_of : Item → List Text
dependency_of (feature_item f) = []
dependency_of (optional_item name) = name ∷ []
dependency_of (slash_item name feature true) = []
dependency_of (slash_item name feature false) = name ∷ []

-- The dependencies that a feature's items turn on.
abbrev pub dependencies_in : FeatureText → List Text
dependencies_in f = flat_map (λ t. dependency_of (item_of t)) f.items

-- The dependencies that features turn on.
abbrev pub dependencies_of : List FeatureText → List Text
dependencies_of features = flat_map dependencies_in features

-- The declarations that lead to a package of the document.
abbrev pub leading : List DeclarationText → List DeclarationText
leading declarations = filter (λ d. is_some d.leads_to) declarations

-- Whether the declared dependency can be on: it is required, or one of the items that turn dependencies on names it.
abbrev pub can_be_on : List Text → DeclarationText → Bool
can_be_on on d = not d.optional || list_any (bytes_eq d.name) on

-- The names of the declarations that an item `d?/f` can reach.
abbrev pub reached_weakly : PackageText → List Text
reached_weakly x = map (λ d. d.name) (filter (can_be_on (dependencies_of x.features)) (leading x.declarations))

-- The names of the declarations that an item `d/f` can reach.
abbrev pub reached : PackageText → List Text
reached x = map (λ d. d.name) (leading x.declarations)

-- An item `d/f` or `d?/f` of a package is DEAD if it can reach no declaration: none named `d` leads to a package of the document, or the item
-- is weak and nothing turns `d` on.
abbrev pub is_dead : PackageText → Item → Bool
is_dead x (feature_item f) = false
is_dead x (optional_item name) = false
is_dead x (slash_item name feature true) = not (list_any (bytes_eq name) (reached_weakly x))
is_dead x (slash_item name feature false) = not (list_any (bytes_eq name) (reached x))
