use Rattle.std.proofs.Common.{rules, ◌≡◌, ◌-◌, ◌≤◌, length, get_or, arith}
use Rattle.std.proofs.lemmas.List.{get_or_read}
use Rattle.digraphs.specs.Rows.{places}
use Rattle.digraphs.specs.Graph.{sources}
use Rattle.digraph_orders.proofs.OutEdgeLemmas.{IsEdgeTo, edge_to, out_length}
use Rattle.digraph_orders.proofs.ComponentLemmas.{next_edge}
use Rattle.digraph_orders.proofs.components.walk.Walk.next.Goals as goal

pub overflow_sub-edges : goal.overflow_sub-edges
overflow_sub-edges c =
    let s = c.args.self.now in
    let w = c.requires.walk.0 in
    let n : c.len.result ≡ length s.left.items = search rules in
    let is = get_or_read s.left.items (c.len.result - 1) c.index.result.now (omega (arith, n, w.left_long, c.requires.opened)) c.index.ensures 0 in
    let at : c.len.result - 1 ≡ length s.opened.items - 1 = omega (arith, n, w.left_long) in
    let is' : c.index.result.now ≡ get_or s.left.items (length s.opened.items - 1) 0 = rw at at is in
    let few = rw c.requires.top at (w.few_left (length s.opened.items - 1) (omega (arith, c.requires.opened))) in
    let long = out_length c.args.graph.now c.args.top c.out_edges-edges.result.start c.out_edges-edges.result.end c.out_edges-edges.ensures.numbers in
    omega (arith, is', few, long)

pub returns : goal.returns
returns c =
    let g = c.args.graph.now in
    let s = c.args.self.now in
    let w = c.requires.walk.0 in
    let n : c.len.result ≡ length s.left.items = search rules in
    let is = get_or_read s.left.items (c.len.result - 1) c.index.result.now (omega (arith, n, w.left_long, c.requires.opened)) c.index.ensures 0 in
    let is' : c.index.result.now ≡ get_or s.left.items (length s.left.items - 1) 0 = rw n at is in
    let l = get_or s.left.items (length s.left.items - 1) 0 in
    let at : length s.left.items - 1 ≡ length s.opened.items - 1 = omega (arith, w.left_long) in
    let few : l ≤ length (places c.args.top (sources g.edges)) = rw at (rw c.requires.top at (w.few_left (length s.opened.items - 1) (omega (arith, c.requires.opened)))) in
    let got = rw (is', next_edge g c.args.top l c.out_edges-edges.result.start c.out_edges-edges.result.end c.out_edges-edges.ensures.numbers c.requires.some few) at c.edge.ensures in
    let e : IsEdgeTo g c.args.top (length (places c.args.top (sources g.edges)) - l) c.edge.result.to =
    edge_to g c.args.top (length (places c.args.top (sources g.edges)) - l) c.edge.result c.facts.ensures (omega (arith, few, c.requires.some)) got
    in
    record { value = e.value; node = e.node; edge = e.edge }
