-- The values that Rust's types contain.
use Rattle.std.specs.Prelude.{string_bytes}
use Rattle.feats_lines.specs.parts.Tables.{RowText}
use Rattle.feats_lines.specs.declared.parts.table.Row.{Row}

abbrev pub row_text : Row → RowText
row_text r = record { first = string_bytes r.first; second = string_bytes r.second; third = string_bytes r.third }
