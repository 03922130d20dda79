-- The meaning of an item's text.
use Rattle.std.specs.Prelude.{nat_eq, ◌-◌, Bool, true, false, length, take, drop, ◌==◌, if◌then◌else◌, codes, ℕ}
use Rattle.std.specs.List.{list_any, before_first, after_first, starts_with, ends_with}
use Rattle.guppy_packages.specs.Rows.{Text}
use Rattle.guppy_packages.specs.declared.named_feature_dep.NamedFeatureDep.{NamedFeatureDep}
use Rattle.guppy_packages.specs.declared.named_feature_dep.NamedFeatureDep.TheVariants as dep

-- A feature of the package, an optional dependency, or a dependency's feature: its name, the feature, and whether it is weak.
pub data Item : Type 0 where
  feature_item : Text → Item
  optional_item : Text → Item
  slash_item : Text → Text → Bool → Item

abbrev pub is_slash : ℕ → Bool
is_slash c = c == 47

-- Without a slash, the prefix `dep:` marks an optional dependency.
abbrev pub plain_item : Text → Item
plain_item text = if starts_with nat_eq text (codes "dep:") then optional_item (drop 4 text) else feature_item text

-- One `?` at the end of the left part is dropped and makes the item weak.
abbrev pub cut_item : Text → Text → Item
cut_item left right = if ends_with nat_eq left (codes "?") then slash_item (take (length left - 1) left) right true else slash_item left right false

-- An item is cut at its first slash.
abbrev pub item_of : Text → Item
item_of text = if list_any is_slash text then cut_item (before_first is_slash text) (after_first is_slash text) else plain_item text

-- The parsed item as a plain value.
abbrev pub meaning : NamedFeatureDep → Item
meaning (dep.NamedFeature feature) = feature_item feature.now
meaning (dep.OptionalDependency name) = optional_item name.now
meaning (dep.DependencyNamedFeature dep_name feature weak) = slash_item dep_name.now feature.now weak
