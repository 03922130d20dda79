-- The values that edits contain.
use Rattle.cargo_manifests.specs.Edits.{EditText, PlaceText, WithoutText, declaration_at, defaults, feature, table_entry}
use Rattle.cargo_manifests.specs.declared.edits.Edit.{Edit}
use Rattle.cargo_manifests.specs.declared.edits.EditPlace.{EditPlace}
use Rattle.cargo_manifests.specs.declared.edits.EditPlace.TheVariants as place
use Rattle.cargo_manifests.specs.declared.edits.Without.{Without}
use Rattle.cargo_manifests.specs.declared.edits.Without.TheVariants as without

abbrev pub without_text : Without → WithoutText
without_text without.Defaults = defaults
without_text (without.Feature name) = feature name.now

abbrev pub place_text : EditPlace → PlaceText
place_text (place.Declaration p n) = declaration_at p n
place_text (place.TableEntry name) = table_entry name.now

abbrev pub edit_text : Edit → EditText
edit_text e = record { place = place_text e.place; without = without_text e.without }
