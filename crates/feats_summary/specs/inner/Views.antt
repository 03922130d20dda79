-- The values that Rust's types contain.
use Rattle.std.specs.Prelude.{List, [], ◌∷◌, map, option_map}
use Rattle.std.specs.Borrow.{Bor}
use Rattle.cargo_workspaces.specs.Views.{package_text}
use Rattle.cargo_workspaces.specs.Workspaces.{Text}
use Rattle.feats_summary.specs.Packages.{KnownText}
use Rattle.feats_summary.specs.Places.{PlacesText}
use Rattle.feats_summary.specs.declared.packages.Known.{Known}
use Rattle.feats_summary.specs.declared.places.Places.{Places}

abbrev pub entry_texts : List (Bor Text × Bor Text) → List (Text × Text)
entry_texts [] = []
entry_texts (e ∷ es) = (e.0.now, e.1.now) ∷ entry_texts es

abbrev pub places_text : Places → PlacesText
places_text p = record { root = option_map (λ t. t.now) p.root; manifests = entry_texts p.manifests.entries }

abbrev pub known_text : Known → KnownText
known_text k = record {
  packages = map package_text k.packages.now;
  members = k.members.now;
  selected = k.selected.now;
  places = places_text k.places.now;
  on = k.on.now;
  split = k.split;
}
