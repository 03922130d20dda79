use Rattle.std.proofs.Common.{◌≡◌, ◌-◌, ◌++◌, replicate, length}
use Rattle.std.specs.String.{string_bytes}
use Rattle.feats_slim.proofs.answers.rows.push_spaces.Given as goal

abbrev pub invariant-loop-column : goal.invariant-loop-column
invariant-loop-column l = string_bytes l.initial.text ++ replicate (8 - length l.digits) 32 ≡ string_bytes l.text ++ replicate (8 - l._column) 32
