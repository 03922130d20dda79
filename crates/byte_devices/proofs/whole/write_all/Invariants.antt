use Rattle.std.proofs.Common.{length, take, ◌-◌, ◌≡◌, ◌≤◌, false}
use Rattle.std.specs.Io.KnownBytes.{Appends}
use Rattle.byte_devices.proofs.whole.write_all.Given as goal

-- The front of the text is written.
abbrev pub invariant-loop-done : goal.invariant-loop-done
invariant-loop-done g l = record {
  within : l.done ≤ length l.text;
  fresh : g.W.ByteOutput.failed l.writer ≡ false;
  front : Appends (g.W.ByteOutput.held l.fn.writer) (g.W.ByteOutput.held l.writer) (take l.done l.text);
}

abbrev pub decreases-loop-done : goal.decreases-loop-done
decreases-loop-done g l = length l.text - l.done
