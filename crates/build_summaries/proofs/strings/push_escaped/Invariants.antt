use Rattle.std.proofs.Common.{◌≡◌, ◌++◌, drop}
use Rattle.build_summaries.specs.Strings.{escaped}
use Rattle.build_summaries.proofs.strings.push_escaped.Given as goal

abbrev pub invariant-loop-byte : goal.invariant-loop-byte
invariant-loop-byte l = l.initial.text.items ++ escaped l.part ≡ l.text.items ++ escaped (drop l.byte-index l.part)
