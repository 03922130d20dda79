-- The values that losses contain.
use Rattle.std.specs.Prelude.{map}
use Rattle.feats_slim.specs.edits.Losses.{LossesText, LostText}
use Rattle.feats_slim.specs.declared.edits.loss.Losses.{Losses}
use Rattle.feats_slim.specs.declared.edits.loss.LostFeature.{LostFeature}

abbrev pub lost_feature_text : LostFeature → LostText
lost_feature_text f = record { number = f.«package»; name = f.name.now }

abbrev pub losses_text : Losses → LossesText
losses_text l = record { numbers = l.packages.items; features = map lost_feature_text l.features.items }
