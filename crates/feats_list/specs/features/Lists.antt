-- The features and the optional dependencies of package `p`, and on which sides each is built. `built side p label` is whether a part of
-- package `p` is built on a side.
use Rattle.std.specs.Prelude.{ℕ, List, [], ◌∷◌, ◌++◌, Bool, map, filter, not, ◌&&◌}
use Rattle.std.specs.Str.{bytes_eq}
use Rattle.feature_labels.specs.Names.{LabelName}
use Rattle.feature_labels.specs.Names.LabelName.{base, named, optional}
use Rattle.cargo_workspaces.specs.Workspaces.{Text, FeatureText, DeclarationText, PackageText}
use Rattle.plan_rows.specs.declared.side.Side.{Side}
use Rattle.plan_rows.specs.declared.side.Side.TheVariants.{Target, Host}

-- A feature or an optional dependency: whether it is built on each side, and its items.
pub record ListedText : Type 0 where
  pub label : LabelName
  pub target : Bool
  pub host : Bool
  pub items : List Text

abbrev pub listed_of : (Side → ℕ → LabelName → Bool) → ℕ → LabelName → List Text → ListedText
listed_of built p label items = record { label = label; target = built Target p label; host = built Host p label; items = items }

abbrev pub listed_features : (Side → ℕ → LabelName → Bool) → ℕ → List FeatureText → List ListedText
listed_features built p features = map (λ f. listed_of built p (named f.name) f.items) features

-- An optional dependency has no items.
abbrev pub listed_dependency : (Side → ℕ → LabelName → Bool) → ℕ → Text → ListedText
listed_dependency built p name = listed_of built p (optional name) []

abbrev pub listed_dependencies : (Side → ℕ → LabelName → Bool) → ℕ → List Text → List ListedText
listed_dependencies built p names = map (listed_dependency built p) names

-- Each of the texts where it is first.
abbrev pub once : List Text → List Text
once [] = []
once (t ∷ ts) = t ∷ filter (λ u. not (bytes_eq u t)) (once ts)

-- The names of the optional declarations, once each.
abbrev pub optional_names : List DeclarationText → List Text
optional_names ds = once (map (λ d. d.name) (filter (λ d. d.optional) ds))

-- What is shown of a package: its features, and then its optional dependencies.
abbrev pub listed : (Side → ℕ → LabelName → Bool) → ℕ → PackageText → List ListedText
listed built p x = listed_features built p x.features ++ listed_dependencies built p (optional_names x.declarations)

-- Whether the package is built on both sides.
abbrev pub has_two_sides : (Side → ℕ → LabelName → Bool) → ℕ → Bool
has_two_sides built p = built Target p base && built Host p base
