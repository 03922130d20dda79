use Rattle.std.proofs.Common.{◌≡◌, ℕ, length, take}
use Rattle.digraphs.specs.Bits.{has}
use Rattle.plan_starts.specs.Starts.{is_among}
use Rattle.plan_starts.proofs.marks.marks_of.Given as goal

abbrev pub invariant-loop-number : goal.invariant-loop-number
invariant-loop-number l = record {
  size : length l.set ≡ l.count;
  marks : (k : ℕ) → has l.set k ≡ is_among (take l.number-index l.numbers) k;
}
