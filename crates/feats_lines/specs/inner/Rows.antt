-- The values that rows contain.
use Rattle.std.specs.Prelude.{string_bytes}
use Rattle.cargo_workspaces.specs.Views.{texts}
use Rattle.feats_lines.specs.Lines.{RowText}
use Rattle.feats_lines.specs.declared.rows.Row.{Row}

abbrev pub row_text : Row → RowText
row_text r = record { place = r.place.now; label = string_bytes r.label; features = texts r.features.now }
