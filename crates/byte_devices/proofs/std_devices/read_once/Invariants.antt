use Rattle.std.specs.Io.KnownBytes.{Keeps}
use Rattle.byte_devices.proofs.std_devices.read_once.Given as goal

-- An interrupted read takes nothing.
abbrev pub invariant-loop-attempt : goal.invariant-loop-attempt
invariant-loop-attempt g l = Keeps (g.R.Read.remaining l.fn.reader) (g.R.Read.remaining l.reader)
