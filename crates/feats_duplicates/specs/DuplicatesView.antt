-- The value that duplicates contain.
use Rattle.std.specs.Prelude.{map}
use Rattle.feats_duplicates.specs.Duplicates.{DuplicatesText}
use Rattle.feats_duplicates.specs.Views.{alone_text, places_text, versions_text}
use Rattle.feats_duplicates.specs.declared.duplicates.Duplicates.{Duplicates}

abbrev pub duplicates_text : Duplicates → DuplicatesText
duplicates_text d = record { versions = map versions_text d.versions.items; places = map places_text d.places.items; alone = map alone_text d.alone.items }
