use Rattle.std.proofs.Common.{◌∙◌, false, length, ap, arith}
use Rattle.std.specs.Prelude.{slice_index}
use Rattle.std.proofs.lemmas.List.{length-replicate, drop_all, drop_more}
use Rattle.feature_graph_c.proofs.SetLemmas.{set_begins, set_more, set_ends, below_at}
use Rattle.feature_graph_c.proofs.requests.sets.set_of.Goals as goal

pub loop-at-init : goal.loop-at-init
loop-at-init c = record {
  size = ap length c.in_ok-set.ensures ∙ length-replicate c.args.count false;
  below = c.requires;
  rest = set_begins c.args.count c.args.nodes.now c.in_ok-set.set c.in_ok-set.ensures;
}

pub insert-requires : goal.insert-requires
insert-requires c =
    let nodes = c.args.nodes.now in
    let at = drop_more nodes c.loop-at.at 0 c.loop-at-test.true in
    let below = below_at c.args.count nodes c.loop-at.at (slice_index nodes c.loop-at.at) at c.loop-at.invariant.below in
    omega (arith, below.0, c.loop-at.invariant.size)

pub loop-at-preserved : goal.loop-at-preserved
loop-at-preserved c =
    let nodes = c.args.nodes.now in
    let at = drop_more nodes c.loop-at.at 0 c.loop-at-test.true in
    record {
      size = c.insert.ensures.size ∙ c.loop-at.invariant.size;
      below = (below_at c.args.count nodes c.loop-at.at (slice_index nodes c.loop-at.at) at c.loop-at.invariant.below).1;
      rest = set_more nodes c.loop-at.at (slice_index nodes c.loop-at.at) c.loop-at.set c.insert.new.set at c.insert.ensures.members c.loop-at.invariant.rest;
    }

pub returns : goal.returns
returns c =
    let nodes = c.args.nodes.now in
    let i = c.loop-at.at in
    record {
      long = c.loop-at.invariant.size;
      exact = set_ends nodes i c.loop-at.set (drop_all i nodes (omega (arith, c.loop-at-test.false))) c.loop-at.invariant.rest;
    }
