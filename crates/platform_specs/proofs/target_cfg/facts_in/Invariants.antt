use Rattle.std.proofs.Common.{◌≤◌, ◌+◌, length}
use Rattle.platform_specs.specs.Grammar.{lines_of}
use Rattle.platform_specs.specs.inner.LineReading.{lines_behind}
use Rattle.platform_specs.proofs.Lines.{LinesRead, size_left}
use Rattle.platform_specs.proofs.target_cfg.facts_in.Given as goal

-- the facts of the lines so far; there are at most as many lines as bytes
abbrev pub invariant-lines : goal.invariant-lines
invariant-lines l = record {
  read : LinesRead (lines_of l.text) (lines_behind l.rest) l.number l.facts.items;
  count : l.number + size_left l.rest ≤ length l.text + 1;
}

abbrev pub decreases-lines : goal.decreases-lines
decreases-lines l = size_left l.rest
