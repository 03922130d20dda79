-- Rows as plain values.
use Rattle.std.specs.Prelude.{ℕ, List, Bool, Option, map}
use Rattle.std.specs.Borrow.{Bor}
use Rattle.std.specs.Option.{option_map}
use Rattle.guppy_packages.specs.declared.row.DependencyKind.{DependencyKind}
use Rattle.guppy_packages.specs.declared.row.Row.{Row}
use Rattle.guppy_packages.specs.declared.row.Row.TheVariants as row

abbrev pub Text : Type 0
Text = List ℕ

pub record Declared : Type 0 where
  pub kind : DependencyKind
  pub optional : Bool
  pub platform : Option Text
  pub default_features : Bool
  pub features : List Text

pub data RowText : Type 0 where
  a_package : Text → Bool → RowText
  a_feature : Text → List Text → RowText
  a_dep : Text → Text → Declared → RowText

abbrev pub texts : List (Bor (List ℕ)) → List Text
texts = map (λ t. t.now)

abbrev pub row_text : Row → RowText
row_text (row.Package id in_workspace) = a_package id.now in_workspace
row_text (row.Feature name items) = a_feature name.now (texts items.now)
row_text (row.Dep name target kind optional platform default_features features) = a_dep name.now target.now (record {
  kind = kind;
  optional = optional;
  platform = option_map (λ t. t.now) platform;
  default_features = default_features;
  features = texts features.now;
})
