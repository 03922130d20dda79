use Rattle.std.proofs.Common.{◌≡◌, drop, find, is_none}
use Rattle.row_files.specs.RowFile.{lines_of}
use Rattle.row_files.specs.RowOfLine.{row_of}
use Rattle.row_files.proofs.rows.LineRows.of.Given as goal

-- No line so far is malformed, so the first malformed line from here on is the first of all.
abbrev pub invariant-loop-at : goal.invariant-loop-at
invariant-loop-at l =
    find (λ line. is_none (row_of line.1)) (drop l.at (lines_of l.lines)) ≡ find (λ line. is_none (row_of line.1)) (lines_of l.lines)
