use Rattle.std.proofs.Common.{length}
use Rattle.std.specs.Str.Iter.{chars_rest}
use Rattle.platform_specs.specs.inner.Reading.{read_step, at_first, reading}
use Rattle.platform_specs.proofs.Places.{At}
use Rattle.platform_specs.proofs.expression_text.read_parts.Given as goal

abbrev pub invariant-text : goal.invariant-text
invariant-text l = At read_step at_first l.text (chars_rest l.rest) l.left (reading l.reader)

abbrev pub decreases-text : goal.decreases-text
decreases-text l = length (chars_rest l.rest)
