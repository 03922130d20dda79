use Rattle.std.proofs.Common.{◌≡◌, drop}
use Rattle.cargo_rows.specs.Rows.{has_control}
use Rattle.cargo_rows.proofs.rows.has_control.Given as goal

abbrev pub invariant-loop-byte : goal.invariant-loop-byte
invariant-loop-byte l = has_control l.bytes ≡ has_control (drop l.byte-index l.bytes)
