-- Errors as plain values.
use Rattle.feature_edges.specs.guppy_packages.Rows.{Text}
use Rattle.feature_edges.specs.feature_labels.Names.{LabelName, id_of}
use Rattle.feature_core.specs.declared.error.Error.{Error}
use Rattle.feature_core.specs.declared.error.Error.TheVariants as error

pub data Refusal : Type 0 where
  unknown_package : Text → Refusal
  unknown_feature : Text × LabelName → Refusal
  internal_error : Text × LabelName → Text × LabelName → Refusal
  no_memory : Refusal

abbrev pub refusal_of : Error → Refusal
refusal_of (error.UnknownPackageId id) = unknown_package id.now
refusal_of (error.UnknownFeatureId id) = unknown_feature (id_of id)
refusal_of (error.FeatureGraphInternalError from to) = internal_error (id_of from) (id_of to)
refusal_of error.Memory = no_memory
