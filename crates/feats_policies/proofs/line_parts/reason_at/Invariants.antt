use Rattle.std.proofs.Common.{◌≡◌, ◌+◌, ◌∷◌, drop}
use Rattle.std.specs.List.{position_or_len, zip}
use Rattle.feats_policies.specs.Lines.{begins_reason, reason_at}
use Rattle.feats_policies.proofs.line_parts.reason_at.Given as goal

abbrev pub invariant-loop-ix : goal.invariant-loop-ix
invariant-loop-ix l = reason_at l.line ≡ l.ix + position_or_len begins_reason (zip (l.previous ∷ drop l.ix l.line) (drop l.ix l.line))
