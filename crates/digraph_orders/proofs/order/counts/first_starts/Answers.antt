use Rattle.std.proofs.Common.{◌≡◌, ◌∙◌, ◌<◌, false, [], length, ap, arith, Contains}
use Rattle.std.proofs.lemmas.List.{length-replicate}
use Rattle.digraphs.specs.Bits.{members}
use Rattle.digraphs.specs.Rows.{places}
use Rattle.digraph_orders.proofs.PlaceLemmas.{places_within}
use Rattle.digraph_orders.proofs.QueueLemmas.{members_empty}
use Rattle.digraph_orders.proofs.order.counts.first_starts.Goals as goal

pub add_start-requires-clause-nodes : goal.add_start-requires-clause-nodes
add_start-requires-clause-nodes c =
    λ j h.
    let rank = c.loop-rank.rank in
    let h' : j < length (places rank c.args.ranks.now) = rw c.row-row.ensures at h in
    let w = places_within rank c.args.ranks.now j h' in
    rw c.row-row.ensures (omega (arith, w.0, c.requires.ranks, c.requires.held))

pub loop-rank-init : goal.loop-rank-init
loop-rank-init c =
    let e = c.in_ok-starts.ensures in
    let none : members c.in_ok-starts.starts ≡ [] = ap members e ∙ members_empty c.args.nodes in
    record {
      firsts = record {
        waits = λ k l. absurd (omega (arith, l));
        only = λ x h. let h' : Contains [] x = rw none at h in absurd (omega (arith, h'.1));
      };
      room = ap length e ∙ length-replicate c.args.nodes false;
    }
