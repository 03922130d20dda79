-- The value that an edit with its numbers contains.
use Rattle.cargo_manifests.specs.EditViews.{edit_text}
use Rattle.feats_slim.specs.edits.Orders.{SlimText}
use Rattle.feats_slim.specs.declared.edits.lost.Slim.{Slim}

abbrev pub slim_text : Slim → SlimText
slim_text s = record { edit = edit_text s.edit; packages = s.packages; features = s.features }
