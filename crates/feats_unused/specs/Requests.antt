-- The features that packages ask of other packages, by their declarations and by their features' items.
use Rattle.std.specs.Prelude.{ℕ, suc, List, [], ◌∷◌, ◌++◌, flat_map, codes, nat_eq, if◌then◌else◌}
use Rattle.std.specs.Option.{option_map_or}
use Rattle.std.specs.Str.{bytes_eq}
use Rattle.guppy_packages.specs.Items.{Item, feature_item, item_of, optional_item, slash_item}
use Rattle.cargo_workspaces.specs.Workspaces.{DeclarationText, FeatureText, PackageText, Text, WorkspaceText}

-- The number of the package that is asked, and the name of the feature.
pub record RequestText : Type 0 where
  pub to : ℕ
  pub feature : Text

-- What package `p` asks of package `q`. What a package asks of itself is no request.
abbrev pub request : ℕ → ℕ → Text → List RequestText
request p q feature = if nat_eq q p then [] else record { to = q; feature = feature } ∷ []

-- A declaration that leads to package `q` asks for the features that it lists, and for `default` unless it turns default features off.
abbrev pub by_lead : ℕ → DeclarationText → ℕ → List RequestText
by_lead p d q = flat_map (request p q) d.features ++ (if d.default_features then request p q (codes "default") else [])

-- Its kind and platform don't matter, nor whether it is optional.
abbrev pub by_declaration : ℕ → DeclarationText → List RequestText
by_declaration p d = option_map_or (by_lead p d) d.leads_to []

-- The package that the declaration leads to, if it has the name.
abbrev pub lead_of : Text → DeclarationText → List ℕ
lead_of name d = option_map_or (λ q. if bytes_eq name d.name then q ∷ [] else []) d.leads_to []

-- The packages to which declarations of this name lead.
abbrev pub leads_of : List DeclarationText → Text → List ℕ
leads_of declarations name = flat_map (lead_of name) declarations

-- An item `d/f` or `d?/f` asks for `f` of each package to which a declaration `d` leads.
abbrev pub by_item : ℕ → List DeclarationText → Item → List RequestText
by_item p declarations (feature_item f) = []
by_item p declarations (optional_item name) = []
by_item p declarations (slash_item name feature weak) = flat_map (λ q. request p q feature) (leads_of declarations name)

abbrev pub by_feature : ℕ → List DeclarationText → FeatureText → List RequestText
by_feature p declarations f = flat_map (λ t. by_item p declarations (item_of t)) f.items

-- What package `p`, which is `x`, asks of others.
abbrev pub requests_of : ℕ → PackageText → List RequestText
requests_of p x = flat_map (by_declaration p) x.declarations ++ flat_map (by_feature p x.declarations) x.features

-- What packages ask of others; the first has number `p`.
abbrev pub requests_from : ℕ → List PackageText → List RequestText
requests_from p [] = []
requests_from p (x ∷ xs) = requests_of p x ++ requests_from (suc p) xs

-- ALL REQUESTS of a workspace's packages.
abbrev pub all_requests : WorkspaceText → List RequestText
all_requests w = requests_from 0 w.packages

-- The features that package `q` is asked for.
abbrev pub asked_of : List RequestText → ℕ → List Text
asked_of requests q = flat_map (λ r. if nat_eq q r.to then r.feature ∷ [] else []) requests
