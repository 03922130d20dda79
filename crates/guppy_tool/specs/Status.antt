-- Exit statuses.
use Rattle.std.specs.Prelude.{ℕ}
use Rattle.guppy_tool.specs.declared.fault.Fault.{Fault}
use Rattle.guppy_tool.specs.declared.fault.Fault.TheVariants.{Usage, BadId}

-- 2 for a fault of the command line, and 1 for every other
abbrev pub exit_status : Fault → ℕ
exit_status Usage = 2
exit_status (BadId argument) = 2
exit_status _ = 1
