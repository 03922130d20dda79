use Rattle.std.proofs.Common.{inl, inr}
use Rattle.digraph_orders.proofs.order.listing.wait.Goals as goal

pub returns-then-node-start-clause-waits : goal.returns-then-node-start-clause-waits
returns-then-node-start-clause-waits c =
    let j = c.push.ensures.joins in
    record {
      kept = j.kept;
      now = λ z ne. j.has;
      only = λ y cy. elim (j.only y cy) [ inl e ↦ inl (e, c.if-held-node-eq0.true) | inr o ↦ inr o ];
    }
