use Rattle.std.proofs.Common.{◌≡◌, ◌++◌, drop}
use Rattle.feats_check.specs.texts.Lines.{indented, indented_from}
use Rattle.feats_check.proofs.texts.lines.push_indented.Given as goal

abbrev pub invariant-loop-byte : goal.invariant-loop-byte
invariant-loop-byte l = l.initial.text.items ++ indented l.lines ≡ l.text.items ++ indented_from l.starts (drop l.byte-index l.lines)
