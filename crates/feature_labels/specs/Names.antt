-- Labels and ids as plain values, with the texts that they print and their orders.
use Rattle.std.specs.Prelude.{ℕ, ◌++◌, codes}
use Rattle.std.specs.declared.cmp.Ordering.{Ordering}
use Rattle.std.specs.declared.cmp.Ordering.TheVariants.{Less, Equal, Greater}
use Rattle.std.specs.Ordering.{nat_cmp, ordering_then}
use Rattle.std.specs.Cmp.Lexicographic.{slice_cmp}
use Rattle.guppy_packages.specs.Rows.{Text}
use Rattle.feature_labels.specs.declared.feature_label.FeatureLabel.{FeatureLabel}
use Rattle.feature_labels.specs.declared.feature_label.FeatureLabel.TheVariants.{Base, Named, OptionalDependency}
use Rattle.feature_labels.specs.declared.feature_label.FeatureKind.{FeatureKind}
use Rattle.feature_labels.specs.declared.feature_label.FeatureKind.TheVariants as kind
use Rattle.feature_labels.specs.declared.feature_id.FeatureId.{FeatureId}

-- The label of a feature as a plain value.
pub data LabelName : Type 0 where
  base : LabelName
  named : Text → LabelName
  optional : Text → LabelName

abbrev pub label_of : FeatureLabel → LabelName
label_of Base = base
label_of (Named name) = named name.now
label_of (OptionalDependency name) = optional name.now

abbrev pub kind_of : LabelName → FeatureKind
kind_of base = kind.Base
kind_of (named _) = kind.Named
kind_of (optional _) = kind.OptionalDependency

-- The rank of a kind: the base, then named features, then optional dependencies.
abbrev pub kind_rank : FeatureKind → ℕ
kind_rank kind.Base = 0
kind_rank kind.Named = 1
kind_rank kind.OptionalDependency = 2

-- The order of kinds: the base, then named features, then optional dependencies.
abbrev pub kind_cmp : FeatureKind → FeatureKind → Ordering
kind_cmp a b = nat_cmp (kind_rank a) (kind_rank b)

-- The text of the package's id, and the label.
abbrev pub id_of : FeatureId → Text × LabelName
id_of i = (i.package_id.now, label_of i.label)

abbrev pub label_text : LabelName → Text
label_text base = codes "[base]"
label_text (named name) = name
label_text (optional name) = codes "dep:" ++ name

abbrev pub id_text : Text × LabelName → Text
id_text (id, label) = id ++ codes "/" ++ label_text label

-- The order of labels: the base, then named features by their bytes, then optional dependencies by theirs.
abbrev pub label_cmp : LabelName → LabelName → Ordering
label_cmp base base = Equal
label_cmp base (named _) = Less
label_cmp base (optional _) = Less
label_cmp (named _) base = Greater
label_cmp (named s) (named t) = slice_cmp nat_cmp s t
label_cmp (named _) (optional _) = Less
label_cmp (optional _) base = Greater
label_cmp (optional _) (named _) = Greater
label_cmp (optional s) (optional t) = slice_cmp nat_cmp s t

-- The order of ids: by the bytes of the package's id, then by label.
abbrev pub id_cmp : Text × LabelName → Text × LabelName → Ordering
id_cmp a b = ordering_then (slice_cmp nat_cmp a.0 b.0) (label_cmp a.1 b.1)
