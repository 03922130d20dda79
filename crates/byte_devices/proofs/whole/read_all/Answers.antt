use Rattle.std.proofs.Common.{take, ◌++◌}
use Rattle.std.specs.Prelude.{OnErr, Result, Ok, Err}
use Rattle.std.proofs.KnownBytes.{Consumes-trans}
use Rattle.byte_devices.proofs.whole.read_all.Goals as goal

-- A property that holds anyway holds after an error.
in_any_case : {X E P : Type 0} (r : Result X E) → P → OnErr r P
in_any_case (Ok x) p = tt
in_any_case (Err e) p = p

pub returns-in_err-extend_from_slice-clause-taken : goal.returns-in_err-extend_from_slice-clause-taken
returns-in_err-extend_from_slice-clause-taken g c =
    in_any_case c.from_residual.result (c.loop-count.bytes.items ++ take c.in-Ok.count c.read.new.buf, Consumes-trans _ _ _ _ _ c.loop-count.invariant.bytes c.in-Ok.ensures.bytes.0)
