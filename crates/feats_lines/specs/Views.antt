-- The values that Rust's types contain.
use Rattle.cargo_workspaces.specs.Views.{package_text, texts}
use Rattle.feats_lines.specs.Lines.{ShownText}
use Rattle.feats_lines.specs.declared.shown.Shown.{Shown}

abbrev pub shown_text : Shown → ShownText
shown_text u = record { place = u.place.now; described = package_text u.«package».now; features = texts u.features.now }
