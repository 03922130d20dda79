use Rattle.std.proofs.Common.{◌≡◌}
use Rattle.std.specs.Io.KnownBytes.{Keeps}
use Rattle.byte_devices.proofs.std_devices.ToWriter.write_once.Given as goal

-- An interrupted write appends nothing.
abbrev pub invariant-loop-attempt : goal.invariant-loop-attempt
invariant-loop-attempt g l = record {
  kept : Keeps (g.W.Write.contents l.fn.self.writer) (g.W.Write.contents l.self.writer);
  mark : l.self.has_failed ≡ l.fn.self.has_failed;
}
