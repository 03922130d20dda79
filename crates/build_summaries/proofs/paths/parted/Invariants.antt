use Rattle.std.proofs.Common.{◌≡◌, length}
use Rattle.build_summaries.specs.Paths.{way}
use Rattle.build_summaries.specs.Views.{texts}
use Rattle.build_summaries.proofs.paths.parted.Given as goal

abbrev pub invariant-names : goal.invariant-names
invariant-names l = way (texts l.from) (texts l.to) ≡ way (texts l.left) (texts l.right)

abbrev pub decreases-names : goal.decreases-names
decreases-names l = length l.left
