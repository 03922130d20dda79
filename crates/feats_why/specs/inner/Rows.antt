-- The values that rows contain.
use Rattle.std.specs.Prelude.{string_bytes}
use Rattle.feats_why.specs.Lines.{RowText}
use Rattle.feats_why.specs.declared.rows.Row.{Row}

abbrev pub row_text : Row → RowText
row_text r = record { label = string_bytes r.label; reason = string_bytes r.reason }
