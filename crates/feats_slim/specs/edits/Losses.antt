-- What falls away from one plan to another of a workspace with the same packages.
use Rattle.std.specs.Prelude.{ℕ, List, [], ◌∷◌, Bool, ◌&&◌, length, map, nat_eq, not, if◌then◌else◌}
use Rattle.std.specs.List.{filter, list_any}
use Rattle.std.specs.Str.{bytes_eq}
use Rattle.cargo_workspaces.specs.Workspaces.{Text, FeatureText, PackageText}
use Rattle.plan_starts.specs.Lists.{joined_from}
use Rattle.cargo_plans.specs.plan_units.Units.{UnitText}

-- The features of package `p` in each of the places for which it is built: the host, and the target platforms.
abbrev pub places_of : List UnitText → ℕ → List (List Text)
places_of units p = map (λ u. u.features) (filter (λ u. nat_eq p u.number) units)

-- Whether package `p` is built for some place.
abbrev pub is_built : List UnitText → ℕ → Bool
is_built units p = not (nat_eq (length (places_of units p)) 0)

abbrev pub has_name : Text → List Text → Bool
has_name name features = list_any (bytes_eq name) features

-- Whether package `p` is built with this feature for some place.
abbrev pub is_on : List UnitText → ℕ → Text → Bool
is_on units p name = list_any (has_name name) (places_of units p)

-- A package falls away if it is built, and afterwards for no place any more.
abbrev pub is_lost : List UnitText → List UnitText → ℕ → Bool
is_lost before after p = is_built before p && not (is_built after p)

-- A feature falls away if it is on, and afterwards in no place any more.
abbrev pub is_feature_lost : List UnitText → List UnitText → ℕ → Text → Bool
is_feature_lost before after p name = is_on before p name && not (is_on after p name)

-- A feature of the package with this number.
pub record LostText : Type 0 where
  pub number : ℕ
  pub name : Text

abbrev pub lost_by : ℕ → FeatureText → LostText
lost_by p f = record { number = p; name = f.name }

-- The packages that fall away, each once, whatever the number of its places.
abbrev pub lost_packages : List UnitText → List UnitText → List PackageText → List ℕ
lost_packages before after packages = joined_from (λ p x. if is_lost before after p then p ∷ [] else []) 0 packages

-- Those of these features of package `p` that fall away.
abbrev pub lost_among : List UnitText → List UnitText → ℕ → List FeatureText → List LostText
lost_among before after p features = map (lost_by p) (filter (λ f. is_feature_lost before after p f.name) features)

-- The features that fall away, each once, whatever the number of its places. Those of packages that fall away are among them.
abbrev pub lost_features : List UnitText → List UnitText → List PackageText → List LostText
lost_features before after packages = joined_from (λ p x. lost_among before after p x.features) 0 packages

pub record LossesText : Type 0 where
  pub numbers : List ℕ
  pub features : List LostText

-- ALL THAT FALLS AWAY.
abbrev pub losses_of : List PackageText → List UnitText → List UnitText → LossesText
losses_of packages before after = record { numbers = lost_packages before after packages; features = lost_features before after packages }
