use Rattle.std.proofs.Common.{◌≡◌, ◌-◌, ◌++◌, replicate, length}
use Rattle.std.specs.String.{string_bytes}
use Rattle.feats_lines.proofs.table.push_cell.Given as goal

abbrev pub invariant-loop-column : goal.invariant-loop-column
invariant-loop-column l = string_bytes l.initial.text ++ replicate (l.width - length l.cell) 32 ≡ string_bytes l.text ++ replicate (l.width - l._column) 32
