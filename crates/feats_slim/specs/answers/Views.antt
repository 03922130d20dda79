-- The value that a line contains.
use Rattle.cargo_workspaces.specs.Views.{declaration_text, package_text}
use Rattle.cargo_manifests.specs.EditViews.{without_text}
use Rattle.feats_slim.specs.answers.Shown.{ShownPlaceText, ShownText, declared, inherited}
use Rattle.feats_slim.specs.declared.answers.shown.Shown.{Shown}
use Rattle.feats_slim.specs.declared.answers.shown.ShownPlace.{ShownPlace}
use Rattle.feats_slim.specs.declared.answers.shown.ShownPlace.TheVariants as place

abbrev pub shown_place_text : ShownPlace → ShownPlaceText
shown_place_text (place.Declared x d) = declared (package_text x.now) (declaration_text d.now)
shown_place_text (place.Inherited name) = inherited name.now

abbrev pub shown_text : Shown → ShownText
shown_text s = record { place = shown_place_text s.place; without = without_text s.without; packages = s.packages; features = s.features }
