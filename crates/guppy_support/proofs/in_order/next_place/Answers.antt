use Rattle.std.proofs.Common.{◌∙◌, sym, ap, arith}
use Rattle.digraphs.specs.Bits.{has}
use Rattle.guppy_support.proofs.Readings.{left_yes, left_no, left_end}
use Rattle.guppy_support.proofs.in_order.next_place.Goals as goal

pub returns-then-contains : goal.returns-then-contains
returns-then-contains c =
    let is = ap (has c.args.members.now) (sym c.node_at.ensures) ∙ sym c.contains.ensures ∙ c.if-contains.true in
    (c.loop-place-test.true, c.loop-place.invariant ∙ left_yes c.args.reading c.args.list.now c.args.members.now c.loop-place.place c.loop-place-test.true is)

pub loop-place-preserved : goal.loop-place-preserved
loop-place-preserved c =
    let is = ap (has c.args.members.now) (sym c.node_at.ensures) ∙ sym c.contains.ensures ∙ c.if-contains.false in
    c.loop-place.invariant ∙ left_no c.args.reading c.args.list.now c.args.members.now c.loop-place.place c.loop-place-test.true is

pub returns : goal.returns
returns c = c.loop-place.invariant ∙ left_end c.args.reading c.args.list.now c.args.members.now c.loop-place.place (omega arith)
