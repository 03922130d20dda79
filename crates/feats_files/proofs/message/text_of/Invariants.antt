use Rattle.std.proofs.Common.{◌≡◌, ◌++◌, drop}
use Rattle.std.specs.String.{string_bytes}
use Rattle.feats_files.specs.Parts.{parts_text}
use Rattle.feats_files.proofs.message.text_of.Given as goal

abbrev pub invariant-loop-part : goal.invariant-loop-part
invariant-loop-part l = parts_text l.parts ≡ string_bytes l.text ++ parts_text (drop l.part-index l.parts)
