use Rattle.std.proofs.Common.{rules}
use Rattle.digraph_orders.proofs.order.listing.pop_fresh.Goals as goal

pub contains-requires : goal.contains-requires
contains-requires c = c.requires c.in-Some.number (c.loop-number.invariant.only c.in-Some.number c.in-Some.ensures.some.was)

pub returns-then-not-contains-clause-some : goal.returns-then-not-contains-clause-some
returns-then-not-contains-clause-some c =
    let i = c.loop-number.invariant in
    let s = c.in-Some.ensures.some in
    record {
      was = i.only _ s.was;
      fresh = search rules;
      least = λ y cy fy. s.least y (i.kept y cy fy);
      cut = record { kept = λ y cy fy ne. s.kept y (i.kept y cy fy) ne; only = λ y cy. i.only y (s.only y cy) };
    }
