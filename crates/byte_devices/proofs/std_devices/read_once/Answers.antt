use Rattle.byte_devices.proofs.KeptBytes.{kept_Consumes}
use Rattle.byte_devices.proofs.std_devices.read_once.Goals as goal

pub returns-in-Ok-clause-bytes : goal.returns-in-Ok-clause-bytes
returns-in-Ok-clause-bytes g c = (kept_Consumes _ _ _ _ c.loop-attempt.invariant c.in-Ok.ensures.bytes.0, c.in-Ok.ensures.bytes.1)
