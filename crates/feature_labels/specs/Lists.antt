-- Lists of labels of one package.
use Rattle.std.specs.Prelude.{ℕ, List, ◌↔◌, Option, Some, None, codes, map}
use Rattle.std.specs.List.{Contains, join_by}
use Rattle.std.specs.List.Sorted.{IsStrictlySortedBy}
use Rattle.std.specs.Cmp.Lexicographic.{slice_cmp}
use Rattle.std.specs.Ordering.{nat_cmp}
use Rattle.guppy_packages.specs.Rows.{Text}
use Rattle.guppy_packages.specs.Tables.{Tables}
use Rattle.feature_labels.specs.Names.{LabelName, label_of, label_cmp, label_text}
use Rattle.feature_labels.specs.Names.LabelName.{base, named, optional}
use Rattle.feature_labels.specs.declared.display_features.DisplayFeatures.{DisplayFeatures}

-- Features of one package: the graph's tables, the package's number and id there, and the labels.
pub record ListValue : Type 0 where
  pub graph : Tables
  pub number : ℕ
  pub package_id : Text
  pub labels : List LabelName

-- Each label is less than those after it.
abbrev pub Ascends : List LabelName → Type 0
Ascends labels = IsStrictlySortedBy label_cmp labels

-- Each text is less than those after it.
abbrev pub TextsAscend : List Text → Type 0
TextsAscend texts = IsStrictlySortedBy (slice_cmp nat_cmp) texts

-- The two lists contain the same labels, in any order and any number of times.
abbrev pub SameLabels : List LabelName → List LabelName → Type 0
SameLabels labels others = (label : LabelName) → Contains labels label ↔ Contains others label

-- The ids of the package's features with these labels.
abbrev pub ids_of_labels : Text → List LabelName → List (Text × LabelName)
ids_of_labels id labels = map (λ label. (id, label)) labels

abbrev pub name_if_named : LabelName → Option Text
name_if_named base = None
name_if_named (named name) = Some name
name_if_named (optional _) = None

abbrev pub name_if_optional : LabelName → Option Text
name_if_optional base = None
name_if_optional (named _) = None
name_if_optional (optional name) = Some name

-- The labels' texts with `, ` between neighbours.
abbrev pub joined : List LabelName → Text
joined labels = join_by label_text (codes ", ") labels

abbrev pub labels_shown : DisplayFeatures → List LabelName
labels_shown shown = map label_of shown.0.now
