use Rattle.std.proofs.Common.{◌∙◌, ℕ, Option, ap, sym}
use Rattle.guppy_support.specs.inner.Cursors.{links_left}
use Rattle.guppy_support.proofs.LinkSteps.{first_below, next_start, none_at_hand}
use Rattle.guppy_support.proofs.links_in_order.LinksInOrderIterator.next.Goals as goal

pub loop-self-preserved : goal.loop-self-preserved
loop-self-preserved c =
    let inside = c.loop-self.self-inside in
    let r = inside.reading in
    let es = inside.digraph.now.edges in
    let set = inside.members.now in
    let steps = c.next-self-inside.ensures.steps in
    let parts = first_below inside.digraph.now.nodes inside.nodes c.next-self-inside.new.self c.next-self-inside.result c.loop-self.invariant.nodes steps in
    record {
      size = c.loop-self.invariant.size;
      start = parts.0;
      nodes = parts.1;
      left =
          sym (next_start r es set inside.nodes c.next-self-inside.new.self c.next-self-inside.result steps)
          ∙ sym (none_at_hand r es set c.in-Some.node inside.passed inside.nodes c.in_default-found.ensures)
          ∙ ap (λ (o : Option ℕ). links_left r es set o inside.passed inside.nodes) (sym c.in-Some.is)
          ∙ c.loop-self.invariant.left;
    }
