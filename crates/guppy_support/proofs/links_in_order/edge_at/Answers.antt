use Rattle.std.proofs.Common.{◌∙◌, ap, sym}
use Rattle.std.specs.Prelude.{slice_get}
use Rattle.guppy_support.proofs.Places.{get_range, get_range_past, starting_forward, starting_backward}
use Rattle.guppy_support.proofs.links_in_order.edge_at.Goals as goal

pub returns-then-place-numbers-clause-edge : goal.returns-then-place-numbers-clause-edge
returns-then-place-numbers-clause-edge c =
    sym (get_range c.out_edges-numbers.result.start _ c.args.place c.if-place-numbers.true)
    ∙ ap (λ xs. slice_get xs c.args.place) (c.out_edges-numbers.ensures.numbers ∙ starting_forward c.args.reading c.args.digraph.now.edges c.args.node c.in-Forward.is)

pub returns-else-place-numbers-clause-edge : goal.returns-else-place-numbers-clause-edge
returns-else-place-numbers-clause-edge c =
    sym (get_range_past c.out_edges-numbers.result.start _ c.args.place c.if-place-numbers.false)
    ∙ ap (λ xs. slice_get xs c.args.place) (c.out_edges-numbers.ensures.numbers ∙ starting_forward c.args.reading c.args.digraph.now.edges c.args.node c.in-Forward.is)

pub returns-in-Backward-clause-edge : goal.returns-in-Backward-clause-edge
returns-in-Backward-clause-edge c =
    c.in_edge.ensures.number
    ∙ ap (λ xs. slice_get xs c.args.place) (starting_backward c.args.reading c.args.digraph.now.edges c.args.node c.in-Backward.is)
