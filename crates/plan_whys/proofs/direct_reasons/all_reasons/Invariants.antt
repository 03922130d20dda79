use Rattle.std.proofs.Common.{◌≡◌, ◌++◌, drop}
use Rattle.digraphs.specs.Bits.{has}
use Rattle.walk_engine.specs.Walks.{starting}
use Rattle.plan_whys.specs.Reasons.{all_reasons, reasons_by}
use Rattle.plan_whys.proofs.LeadingWays.{joined_at}
use Rattle.plan_whys.proofs.direct_reasons.all_reasons.Given as goal

abbrev pub invariant-loop-place : goal.invariant-loop-place
invariant-loop-place l =
    l.found.items ++ joined_at (reasons_by (has l.members) l.node) l.table.holds.ways (drop l.place (starting l.back.holds l.node))
    ≡ all_reasons l.table.holds (has l.members) l.node
