-- The tables of a package graph: the packages in the order of their rows, and the links between them.
use Rattle.std.specs.Prelude.{◌≡◌, ◌↔◌, ◌<◌, ◌≤◌, ◌==◌, ◌&&◌, ℕ, List, Bool, Option, Some, true, false, length, map, position, slice_get}
use Rattle.std.specs.List.{list_any, list_all}
use Rattle.std.specs.List.Sorted.{IsNonDecreasingBy}
use Rattle.std.specs.Str.{bytes_eq}
use Rattle.guppy_packages.specs.Rows.{Text, Declared}
use Rattle.guppy_packages.specs.declared.row.DependencyKind.{DependencyKind}
use Rattle.guppy_packages.specs.declared.row.DependencyKind.TheVariants.{Normal, Build, Development}

-- A named feature and its items, in row order.
pub record FeatureTable : Type 0 where
  pub name : Text
  pub items : List Text

-- A package. Its optional names are in the order of the first optional declaration of each.
pub record PackageTable : Type 0 where
  pub id : Text
  pub in_workspace : Bool
  pub features : List FeatureTable
  pub optional_names : List Text

-- All declarations of one ordered pair of packages, in row order.
pub record LinkTable : Type 0 where
  pub from : ℕ
  pub to : ℕ
  pub name : Text
  pub declarations : List Declared

pub record Tables : Type 0 where
  pub packages : List PackageTable
  pub links : List LinkTable

-- The index of an id, of a feature's name and of an optional name.
abbrev pub package_place : Text → List PackageTable → Option ℕ
package_place id packages = position (λ p. bytes_eq id p.id) packages

abbrev pub feature_place : Text → List FeatureTable → Option ℕ
feature_place name features = position (λ f. bytes_eq name f.name) features

abbrev pub optional_place : Text → List Text → Option ℕ
optional_place name names = position (bytes_eq name) names

abbrev pub has_feature : Text → List FeatureTable → Bool
has_feature name features = list_any (λ f. bytes_eq name f.name) features

abbrev pub is_development : DependencyKind → Bool
is_development Normal = false
is_development Build = false
is_development Development = true

abbrev pub has_name : Text → List Text → Bool
has_name name names = list_any (bytes_eq name) names

-- Every declaration is for development.
abbrev pub is_dev_only : LinkTable → Bool
is_dev_only l = list_all (λ d. is_development d.kind) l.declarations

abbrev pub pair_of : LinkTable → ℕ × ℕ
pair_of l = (l.from, l.to)

-- Equal items have the same index.
abbrev pub HasNoRepeats : {X : Type 0} → List X → Type 0
HasNoRepeats {X} xs = (i j : ℕ) (x : X) → slice_get xs i ≡ Some x → slice_get xs j ≡ Some x → i ≡ j

-- The links that leave package `from` are exactly those numbered from `first` up to, not including, `end`.
pub record AreLinksFrom (links : List LinkTable) (from first end : ℕ) : Type 0 where
  pub ascend : first ≤ end
  pub within : end ≤ length links
  pub exactly : (k : ℕ) (l : LinkTable) → slice_get links k ≡ Some l → (l.from ≡ from) ↔ ((first ≤ k) × (k < end))

-- Whether a link that leaves `from` under `name` has an optional declaration.
abbrev pub has_optional_link : ℕ → Text → List LinkTable → Bool
has_optional_link from name links = list_any (λ l. (from == l.from) && bytes_eq name l.name && list_any (λ d. d.optional) l.declarations) links

-- The rules that the tables of rows satisfy.
pub record AreTables (t : Tables) : Type 0 where
  pub ids : HasNoRepeats (map (λ p. p.id) t.packages)
  pub features : (i : ℕ) (p : PackageTable) → slice_get t.packages i ≡ Some p → HasNoRepeats (map (λ f. f.name) p.features)
  pub optional_names : (i : ℕ) (p : PackageTable) → slice_get t.packages i ≡ Some p → HasNoRepeats p.optional_names
  pub pairs : HasNoRepeats (map pair_of t.links)
  pub ends : (k : ℕ) (l : LinkTable) → slice_get t.links k ≡ Some l → (l.from < length t.packages) × (l.to < length t.packages)
  pub declarations : (k : ℕ) (l : LinkTable) → slice_get t.links k ≡ Some l → 0 < length l.declarations
  pub order : IsNonDecreasingBy (λ l. l.from) t.links
  pub optional : (i : ℕ) (p : PackageTable) (name : Text) → slice_get t.packages i ≡ Some p → has_name name p.optional_names ≡ has_optional_link i name t.links
