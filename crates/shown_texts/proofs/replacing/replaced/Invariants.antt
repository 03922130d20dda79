use Rattle.std.proofs.Common.{◌≡◌, ◌++◌, length}
use Rattle.shown_texts.specs.Controls.{replaced}
use Rattle.shown_texts.specs.inner.Forms.{written_in}
use Rattle.shown_texts.proofs.replacing.replaced.Given as goal

-- what is written, and what the rest becomes, are the whole
abbrev pub invariant-loop-rest : goal.invariant-loop-rest
invariant-loop-rest l = l.new.items ++ replaced (written_in l.form) l.rest ≡ replaced (written_in l.form) l.text

abbrev pub decreases-loop-rest : goal.decreases-loop-rest
decreases-loop-rest l = length l.rest
