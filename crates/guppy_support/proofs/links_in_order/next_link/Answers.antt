use Rattle.std.proofs.Common.{◌∙◌, ap, sym, arith}
use Rattle.digraphs.specs.Bits.{has}
use Rattle.guppy_support.specs.Views.{starting}
use Rattle.guppy_support.proofs.LinkSteps.{after_yes, after_no, after_end}
use Rattle.guppy_support.proofs.Places.{starts_at, within_some}
use Rattle.guppy_support.proofs.links_in_order.next_link.Goals as goal

pub ends_of-requires : goal.ends_of-requires
ends_of-requires c = (starts_at c.args.reading c.args.digraph.now.edges c.args.node c.loop-edge.place c.in-Some.edge (sym c.in-Some.ensures.edge)).within

pub returns-then-contains : goal.returns-then-contains
returns-then-contains c =
    let is = ap (has c.args.members.now) (sym c.ends_of.ensures.end) ∙ sym c.contains.ensures ∙ c.if-contains.true in
    c.loop-edge.invariant ∙ after_yes c.args.reading c.args.digraph.now.edges c.args.members.now c.args.node c.loop-edge.place c.in-Some.edge (sym c.in-Some.ensures.edge) is

pub loop-edge-smaller : goal.loop-edge-smaller
loop-edge-smaller c = omega (arith, within_some (starting c.args.reading c.args.digraph.now.edges c.args.node) c.loop-edge.place c.in-Some.edge (sym c.in-Some.ensures.edge))

pub loop-edge-preserved : goal.loop-edge-preserved
loop-edge-preserved c =
    let is = ap (has c.args.members.now) (sym c.ends_of.ensures.end) ∙ sym c.contains.ensures ∙ c.if-contains.false in
    c.loop-edge.invariant ∙ after_no c.args.reading c.args.digraph.now.edges c.args.members.now c.args.node c.loop-edge.place c.in-Some.edge (sym c.in-Some.ensures.edge) is

pub returns : goal.returns
returns c = c.loop-edge.invariant ∙ after_end c.args.reading c.args.digraph.now.edges c.args.members.now c.args.node c.loop-edge.place (sym c.in_default.ensures.edge)
