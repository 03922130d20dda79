use Rattle.std.proofs.Common.{◌≡◌, drop}
use Rattle.feats_summary.specs.Packages.{is_among}
use Rattle.feats_summary.proofs.packages.is_among.Given as goal

abbrev pub invariant-loop-other : goal.invariant-loop-other
invariant-loop-other l = is_among l.numbers l.number ≡ is_among (drop l.other-index l.numbers) l.number
