use Rattle.std.proofs.Common.{length}
use Rattle.std.specs.Str.Iter.{chars_rest}
use Rattle.platform_specs.specs.inner.Positions.{platform_step}
use Rattle.platform_specs.proofs.Places.{At}
use Rattle.platform_specs.proofs.expression_text.unread_name.Given as goal

abbrev pub invariant-text : goal.invariant-text
invariant-text l = At platform_step tt l.text (chars_rest l.rest) l.left tt

abbrev pub decreases-text : goal.decreases-text
decreases-text l = length (chars_rest l.rest)
