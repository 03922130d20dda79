use Rattle.std.proofs.Common.{◌≡◌, ◌++◌, length}
use Rattle.page_data.specs.Pages.{page_safe}
use Rattle.page_data.proofs.pages.escaped.Given as goal

-- what is written, and what the rest becomes, are the whole
abbrev pub invariant-loop-rest : goal.invariant-loop-rest
invariant-loop-rest l = l.text.items ++ page_safe l.rest ≡ page_safe l.json

abbrev pub decreases-loop-rest : goal.decreases-loop-rest
decreases-loop-rest l = length l.rest
