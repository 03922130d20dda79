-- The names of the named features of ascending labels ascend, and so do those of the optional dependencies.
use Rattle.std.proofs.Common.{◌≡◌, List, Some}
use Rattle.std.specs.List.{filter_map}
use Rattle.std.specs.Cmp.Lexicographic.{slice_cmp}
use Rattle.std.specs.Ordering.{nat_cmp}
use Rattle.std.specs.declared.cmp.Ordering.TheVariants.{Less}
use Rattle.guppy_packages.specs.Rows.{Text}
use Rattle.feature_labels.specs.Lists.{Ascends, TextsAscend, name_if_named, name_if_optional}
use Rattle.feature_labels.specs.Names.{LabelName, label_cmp}
use Rattle.feature_labels.specs.Names.LabelName.{base, named, optional}
use Rattle.feature_labels.proofs.Listed.{IsStrictlySortedBy-filter_map}

named_in_order : (a b : LabelName) (x y : Text) → name_if_named a ≡ Some x → name_if_named b ≡ Some y → label_cmp a b ≡ Less → slice_cmp nat_cmp x y ≡ Less
named_in_order base b x y is at less = cc
named_in_order (named s) base x y is at less = cc
named_in_order (named s) (named t) x y is at less = (let one : s ≡ x = cc in let other : t ≡ y = cc in rw (← one, ← other) less)
named_in_order (named s) (optional t) x y is at less = cc
named_in_order (optional s) b x y is at less = cc

optional_in_order : (a b : LabelName) (x y : Text) → name_if_optional a ≡ Some x → name_if_optional b ≡ Some y → label_cmp a b ≡ Less → slice_cmp nat_cmp x y ≡ Less
optional_in_order base b x y is at less = cc
optional_in_order (named s) b x y is at less = cc
optional_in_order (optional s) base x y is at less = cc
optional_in_order (optional s) (named t) x y is at less = cc
optional_in_order (optional s) (optional t) x y is at less = (let one : s ≡ x = cc in let other : t ≡ y = cc in rw (← one, ← other) less)

pub names_ascend : (labels : List LabelName) → Ascends labels → TextsAscend (filter_map name_if_named labels)
names_ascend labels = IsStrictlySortedBy-filter_map label_cmp (slice_cmp nat_cmp) name_if_named named_in_order labels

pub optional_names_ascend : (labels : List LabelName) → Ascends labels → TextsAscend (filter_map name_if_optional labels)
optional_names_ascend labels = IsStrictlySortedBy-filter_map label_cmp (slice_cmp nat_cmp) name_if_optional optional_in_order labels
