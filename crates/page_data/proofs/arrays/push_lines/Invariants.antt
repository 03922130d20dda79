use Rattle.std.proofs.Common.{◌≡◌, ◌++◌, length}
use Rattle.page_data.specs.Arrays.{separated}
use Rattle.page_data.proofs.arrays.push_lines.Given as goal

-- what is written, and what the rest becomes, are the whole
abbrev pub invariant-loop-rest : goal.invariant-loop-rest
invariant-loop-rest l = l.text.items ++ separated l.rest ≡ l.initial.text.items ++ separated l.lines

abbrev pub decreases-loop-rest : goal.decreases-loop-rest
decreases-loop-rest l = length l.rest
