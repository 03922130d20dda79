use Rattle.std.proofs.Common.{◌≡◌, ◌++◌, drop}
use Rattle.plan_names.specs.wider.texts.Lines.{indented_from}
use Rattle.plan_names.proofs.wider.texts.lines.push_indented.Given as goal

abbrev pub invariant-loop-byte : goal.invariant-loop-byte
invariant-loop-byte l = l.initial.text.items ++ indented_from l.initial.at_start l.byte-items ≡ l.text.items ++ indented_from l.starts (drop l.byte-index l.byte-items)
