use Rattle.shortest_routes.proofs.ListLemmas.{all_taken, ends_more, none_in}
use Rattle.shortest_routes.proofs.numbers.greatest_end.Goals as goal

pub loop-link-init : goal.loop-link-init
loop-link-init c = λ from to h. absurd (none_in (from, to) h)

pub loop-link-preserved : goal.loop-link-preserved
loop-link-preserved c =
    ends_more c.args.links.now c.loop-link.link-index c.loop-link.greatest c.larger.result c.larger-greatest.result c.loop-link-test.true c.loop-link.invariant c.larger.ensures c.larger-greatest.ensures

pub returns : goal.returns
returns c = λ from to h. c.loop-link.invariant from to (all_taken c.args.links.now c.loop-link.link-index (from, to) c.loop-link-test.false h)
