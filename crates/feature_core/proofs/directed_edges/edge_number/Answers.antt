use Rattle.std.proofs.Common.{◌≡◌, ◌+◌, Some, None, sym, ◌∙◌, ap, subst, arith}
use Rattle.std.specs.Prelude.{slice_get}
use Rattle.feature_edges.specs.guppy_packages.declared.direction.DependencyDirection.{DependencyDirection}
use Rattle.walk_engine.specs.Walks.{starting}
use Rattle.feature_core.specs.inner.OpenWays.{open_ways}
use Rattle.feature_core.proofs.OpenWayLemmas.{reverse_numbers, out_place, out_past}
use Rattle.feature_core.proofs.directed_edges.edge_number.Goals as goal

pub returns-then-place-edges : goal.returns-then-place-edges
returns-then-place-edges c =
    let g = c.args.digraph.now in
    let e = c.out_edges-edges.result in
    subst (λ (way : DependencyDirection). Some (e.start + c.args.place) ≡ slice_get (starting (open_ways way g) c.args.node) c.args.place) (sym c.in-Forward.is)
    (out_place g c.args.node e.start e.end c.args.place c.out_edges-edges.ensures.numbers c.if-place-edges.true)

pub returns-else-place-edges : goal.returns-else-place-edges
returns-else-place-edges c =
    let g = c.args.digraph.now in
    let e = c.out_edges-edges.result in
    subst (λ (way : DependencyDirection). None ≡ slice_get (starting (open_ways way g) c.args.node) c.args.place) (sym c.in-Forward.is)
    (out_past g c.args.node e.start e.end c.args.place c.out_edges-edges.ensures.numbers (λ h. omega arith))

pub returns-in-Reverse : goal.returns-in-Reverse
returns-in-Reverse c =
    let g = c.args.digraph.now in
    subst (λ (way : DependencyDirection). c.in_edge.result ≡ slice_get (starting (open_ways way g) c.args.node) c.args.place) (sym c.in-Reverse.is)
    (c.in_edge.ensures.number ∙ ap (λ xs. slice_get xs c.args.place) (sym (reverse_numbers c.args.node 0 g.edges)))
