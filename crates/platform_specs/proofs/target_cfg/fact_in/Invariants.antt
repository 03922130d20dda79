use Rattle.std.proofs.Common.{length, false}
use Rattle.std.specs.Str.Iter.{chars_rest}
use Rattle.platform_specs.specs.inner.FactReading.{waiting, fact_step, fact_state}
use Rattle.platform_specs.proofs.Places.{At}
use Rattle.platform_specs.proofs.target_cfg.fact_in.Given as goal

abbrev pub invariant-text : goal.invariant-text
invariant-text l = At (fact_step false) waiting l.line (chars_rest l.rest) l.left (fact_state l.reader)

abbrev pub decreases-text : goal.decreases-text
decreases-text l = length (chars_rest l.rest)
