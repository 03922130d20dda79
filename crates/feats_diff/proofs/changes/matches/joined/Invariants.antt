use Rattle.std.proofs.Common.{◌≡◌, ◌≤◌, ◌+◌, ◌-◌, length, map}
use Rattle.feats_diff.specs.changes.Views.{part_text}
use Rattle.feats_diff.specs.changes.inner.Joined.{cmp_by, joined}
use Rattle.feats_diff.specs.changes.inner.Merges.{finished}
use Rattle.feats_diff.proofs.changes.matches.joined.Given as goal

abbrev pub invariant-loop-taken : goal.invariant-loop-taken
invariant-loop-taken l =
    (finished l.by l.old l.new l.taken l.found ≡ joined (cmp_by l.by) (map part_text l.old) (map part_text l.new))
    × (l.taken.old ≤ length l.old) × (l.taken.new ≤ length l.new)

abbrev pub decreases-loop-taken : goal.decreases-loop-taken
decreases-loop-taken l = (length l.old - l.taken.old) + (length l.new - l.taken.new)
