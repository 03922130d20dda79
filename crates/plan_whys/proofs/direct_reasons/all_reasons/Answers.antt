use Rattle.std.proofs.Common.{◌∙◌, ◌++◌, ap, arith, sym}
use Rattle.walk_engine.specs.Walks.{starting}
use Rattle.digraphs.specs.Bits.{has}
use Rattle.plan_whys.specs.Reasons.{all_reasons, reasons_by}
use Rattle.plan_whys.proofs.LeadingWays.{joined_at, number_step, reasons_back, whole_at, whole_past}
use Rattle.plan_whys.proofs.direct_reasons.all_reasons.Goals as goal

pub loop-place-init : goal.loop-place-init
loop-place-init c =
    ap (λ l. l ++ joined_at (reasons_by (has c.args.members.now) c.args.node) c.args.table.now.holds.ways (starting c.args.back.now.holds c.args.node)) c.new-found.ensures.items
    ∙ reasons_back c.args.table.now.holds c.args.back.now.holds (has c.args.members.now) c.args.node c.requires.reverse

pub loop-place-preserved : goal.loop-place-preserved
loop-place-preserved c =
    number_step c.args.table.now.holds c.args.back.now.holds (reasons_by (has c.args.members.now) c.args.node) c.args.node c.loop-place.place c.in-Some.number
    c.loop-place.found.items c.push_number.new.found.items c.requires.reverse (sym c.in-Some.ensures) c.in_ok-push_number-in-Some.ensures
    ∙ c.loop-place.invariant

pub returns-in-None : goal.returns-in-None
returns-in-None c =
    whole_past c.args.table.now.holds c.args.back.now.holds (reasons_by (has c.args.members.now) c.args.node) c.args.node c.loop-place.place c.loop-place.found.items
    (all_reasons c.args.table.now.holds (has c.args.members.now) c.args.node) (sym c.in-None.ensures) c.loop-place.invariant

pub returns : goal.returns
returns c =
    whole_at c.args.table.now.holds c.args.back.now.holds (reasons_by (has c.args.members.now) c.args.node) c.args.node c.loop-place.place c.loop-place.found.items
    (all_reasons c.args.table.now.holds (has c.args.members.now) c.args.node) (omega (arith, c.edge_count-place-end.ensures)) c.loop-place.invariant
