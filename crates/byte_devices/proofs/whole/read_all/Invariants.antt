use Rattle.std.proofs.Common.{◌-◌, ◌^◌, ◌≡◌, vec_len, false}
use Rattle.std.specs.Io.KnownBytes.{Consumes}
use Rattle.byte_devices.proofs.whole.read_all.Given as goal

-- The bytes are all that were read so far, and no read has failed.
abbrev pub invariant-loop-count : goal.invariant-loop-count
invariant-loop-count g l = record {
  bytes : Consumes (g.R.ByteInput.left l.fn.reader) (g.R.ByteInput.left l.reader) l.bytes.items;
  fresh : g.R.ByteInput.failed l.reader ≡ false;
}

-- The length of a vector is bounded.
abbrev pub decreases-loop-count : goal.decreases-loop-count
decreases-loop-count g l = 2 ^ 64 - vec_len l.bytes
