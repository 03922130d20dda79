use Rattle.std.proofs.Common.{get_or}
use Rattle.digraphs.specs.Bits.{members}
use Rattle.digraph_orders.specs.inner.Plans.{rest_of}
use Rattle.digraph_orders.proofs.AtLemmas.{firm_positive, firm_next}
use Rattle.digraph_orders.proofs.order.listing.Plan.pass_firm.Goals as goal

pub leave_held-requires-clause-positive : goal.leave_held-requires-clause-positive
leave_held-requires-clause-positive c = firm_positive c.args.graph.now c.args.ranks.now c.requires.setup c.args.node c.args.place c.args.self.now.listed.items c.args.self.now.done c.args.self.now.outside.items c.args.self.now.held.items (members c.args.self.now.starts) (members c.args.self.now.ready) (rest_of c.args.ranks.now (get_or c.args.ranks.now c.args.node 0) c.args.self.now) c.requires.at c.args.edge.to c.args.edge.non_dev c.requires.edge c.requires.same c.requires.other c.requires.firm

pub returns-clause-at : goal.returns-clause-at
returns-clause-at c =
    rw c.leave_held.ensures.held
    (firm_next c.args.graph.now c.args.ranks.now c.requires.setup c.args.node c.args.place c.args.self.now.listed.items c.args.self.now.done c.args.self.now.outside.items c.args.self.now.held.items (members c.args.self.now.starts) (members c.args.self.now.ready) (rest_of c.args.ranks.now (get_or c.args.ranks.now c.args.node 0) c.args.self.now) c.requires.at c.args.edge.to c.args.edge.non_dev c.requires.edge c.requires.same c.requires.other c.requires.firm (members c.leave_held.new.ready) c.leave_held.ensures.ready)
