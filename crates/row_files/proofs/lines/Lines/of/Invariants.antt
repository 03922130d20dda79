use Rattle.std.proofs.Common.{◌≡◌, ◌≤◌, ◌+◌, ◌++◌, drop, length}
use Rattle.std.specs.Str.{IsCharBoundary}
use Rattle.guppy_packages.specs.Rows.{texts}
use Rattle.memchr.specs.Find.{is_byte2, places_between}
use Rattle.row_files.specs.Lines.{kept_lines, lines_in}
use Rattle.row_files.specs.RowFile.{lines_of}
use Rattle.row_files.proofs.CutLemmas.{cut, keep, onto}
use Rattle.row_files.proofs.lines.Lines.of.Given as goal

-- The lines so far, and those of the rest of the text with the fields so far prepended, are all
-- lines.
abbrev pub invariant-loop-end : goal.invariant-loop-end
invariant-loop-end l =
    (l.end-iterator ≡ places_between (is_byte2 9 10) l.text l.start (length l.text))
    × (l.start ≤ length l.text)
    × (l.number ≤ l.start + 1)
    × IsCharBoundary l.text l.start
    × (lines_of l.lines ++ keep l.number (onto (texts l.fields.items) (cut (drop l.start l.text))) ≡ kept_lines 1 (lines_in l.text))
