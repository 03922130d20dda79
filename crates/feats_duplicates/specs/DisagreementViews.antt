-- The value that a disagreement contains.
use Rattle.feats_duplicates.specs.Disagreements.{DisagreementText}
use Rattle.feats_duplicates.specs.declared.disagreements.Disagreement.{Disagreement}

abbrev pub disagreement_text : Disagreement → DisagreementText
disagreement_text d = record { number = d.«package»; place = d.place }
