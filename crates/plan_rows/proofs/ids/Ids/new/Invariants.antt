use Rattle.std.proofs.Common.{◌≡◌, length, map}
use Rattle.std.specs.String.{string_bytes}
use Rattle.plan_rows.specs.IdTexts.{AreDecimals}
use Rattle.plan_rows.proofs.ids.Ids.new.Given as goal

abbrev pub invariant-loop-number : goal.invariant-loop-number
invariant-loop-number l = (length l.texts.items ≡ l.number-counter) × AreDecimals (map string_bytes l.texts.items)
