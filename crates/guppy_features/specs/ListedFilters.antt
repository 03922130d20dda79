-- The parts of filters with a list: the base, and the names or ids.
use Rattle.std.specs.Prelude.{List, map}
use Rattle.guppy_packages.specs.Rows.{Text}
use Rattle.feature_labels.specs.Names.{LabelName, id_of}
use Rattle.guppy_features.specs.declared.listed_filters.FeatureIdFilter.{FeatureIdFilter}
use Rattle.guppy_features.specs.declared.listed_filters.NamedFeatureFilter.{NamedFeatureFilter}

abbrev pub base_of_names : {B : Type 0} → NamedFeatureFilter B → B
base_of_names filter = filter.base

abbrev pub listed_names : {B : Type 0} → NamedFeatureFilter B → List Text
listed_names filter = map (λ name. name.now) filter.names.keys

abbrev pub base_of_ids : {B : Type 0} → FeatureIdFilter B → B
base_of_ids filter = filter.base

abbrev pub listed_ids : {B : Type 0} → FeatureIdFilter B → List (Text × LabelName)
listed_ids filter = map id_of filter.ids.keys
