use Rattle.shortest_routes.proofs.ListLemmas.{all_taken, greatest_more, none_in}
use Rattle.shortest_routes.proofs.numbers.greatest.Goals as goal

pub loop-number-init : goal.loop-number-init
loop-number-init c = λ n h. absurd (none_in n h)

pub loop-number-preserved : goal.loop-number-preserved
loop-number-preserved c =
    greatest_more c.args.numbers.now c.loop-number.number-index c.loop-number.greatest c.larger-greatest.result c.loop-number-test.true c.loop-number.invariant c.larger-greatest.ensures

pub returns : goal.returns
returns c = λ n h. c.loop-number.invariant n (all_taken c.args.numbers.now c.loop-number.number-index n c.loop-number-test.false h)
