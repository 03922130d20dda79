use Rattle.shortest_routes.proofs.ChainLemmas.{route_begun, route_next, route_shorter_at}
use Rattle.shortest_routes.proofs.chains.route_from.Goals as goal

pub loop-at-init : goal.loop-at-init
loop-at-init c = λ links targets are. route_begun links targets c.args.table.now c.args.start c.new-route.result.items c.requires.start c.new-route.ensures.items

pub loop-at-preserved : goal.loop-at-preserved
loop-at-preserved c = λ links targets are.
    route_next links targets c.args.table.now are c.args.start c.in-Some.node c.loop-at.route.items c.push.new.self.items c.loop-at.at c.next_of-at.result
    c.in_ok-push.ensures.items c.in-Some.is c.next_of-at.ensures (c.loop-at.invariant links targets are)

pub loop-at-smaller : goal.loop-at-smaller
loop-at-smaller c =
    let links = c.requires.steps.0 in
    let targets = c.requires.steps.1.0 in
    let are = c.requires.steps.1.1 in
    route_shorter_at links targets c.args.table.now are c.args.start c.in-Some.node c.loop-at.route.items c.push.new.self.items c.loop-at.at c.next_of-at.result
    c.in_ok-push.ensures.items c.in-Some.is c.next_of-at.ensures (c.loop-at.invariant links targets are)
