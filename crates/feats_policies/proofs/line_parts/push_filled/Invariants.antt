use Rattle.std.proofs.Common.{◌≡◌, ◌++◌, filter, drop}
use Rattle.feats_policies.specs.Lines.{is_text}
use Rattle.feats_policies.specs.Views.{texts}
use Rattle.feats_policies.proofs.line_parts.push_filled.Given as goal

abbrev pub invariant-loop-part : goal.invariant-loop-part
invariant-loop-part l =
    texts l.initial.words.items ++ filter is_text (texts l.parts) ≡ texts l.words.items ++ filter is_text (texts (drop l.part-index l.parts))
