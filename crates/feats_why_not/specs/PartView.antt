-- The value that Rust's type contains.
use Rattle.feature_labels.specs.Names.{label_of}
use Rattle.feats_why_not.specs.Parts.{PartText}
use Rattle.feats_why_not.specs.declared.parts.OffPart.{OffPart}

abbrev pub part_text : OffPart → PartText
part_text part = record { number = part.«package»; label = label_of part.label }
