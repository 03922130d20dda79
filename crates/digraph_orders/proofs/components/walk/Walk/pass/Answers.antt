use Rattle.std.proofs.Common.{rules, ◌≡◌, ◌+◌, ◌-◌, ◌<◌, ℕ, inl, inr, length, get_or, arith, sym}
use Rattle.std.proofs.lemmas.Bool.{cases_eq}
use Rattle.std.proofs.lemmas.List.{get_or_read}
use Rattle.digraphs.specs.Rows.{places}
use Rattle.digraphs.specs.Graph.{sources}
use Rattle.digraph_orders.specs.inner.NodeEdges.{target_at}
use Rattle.digraph_orders.specs.inner.ComponentWalk.{IsWalking}
use Rattle.digraph_orders.proofs.ComponentLemmas.{joined, stepped}
use Rattle.digraph_orders.proofs.components.walk.Walk.pass.Goals as goal

pub returns-clause-walk : goal.returns-clause-walk
returns-clause-walk c =
    let g = c.args.graph.now in
    let s = c.args.self.now in
    let w = c.requires.walk.0 in
    let f = c.fold.ensures in
    let bounds = c.fold.new.bounds.items in
    let last = length s.opened.items - 1 in
    let some : last + 1 ≡ length s.opened.items = omega (arith, c.requires.opened) in
    let long : c.len-last.result ≡ length s.left.items = search rules in
    let at : c.len-last.result - 1 ≡ last = omega (arith, long, w.left_long) in
    let left_last : length s.left.items - 1 ≡ last = omega (arith, w.left_long) in
    let read : c.index_mut.result.now ≡ get_or s.left.items (c.len-last.result - 1) 0 =
    get_or_read s.left.items (c.len-last.result - 1) c.index_mut.result.now (omega (arith, at, some, w.left_long)) c.index_mut.ensures.value 0 in
    let read' : c.index_mut.result.now ≡ get_or s.left.items last 0 = rw at at read in
    let positive : 0 < get_or s.left.items last 0 = rw left_last at c.requires.some in
    let mark : c.index.result.now ≡ get_or s.marks.items c.args.node 0 = get_or_read s.marks.items c.args.node c.index.result.now (omega (arith, c.requires.node, w.marks_long)) c.index.ensures 0 in
    let next : c.args.node ≡ target_at g.edges c.args.top (length (places c.args.top (sources g.edges)) - get_or s.left.items last 0) = rw left_last at c.requires.next in
    let j : IsWalking g s.marks.items s.pending.items bounds s.opened.items s.left.items s.level =
    joined g s.marks.items s.pending.items s.bounds.items s.opened.items s.left.items s.level w c.args.top last some c.requires.top
    c.args.node c.requires.edge c.requires.entered bounds f.front f.some (λ i a b. omega (arith, mark, f.dropped i a b))
    in
    let low : (b : ℕ) → b < length bounds → get_or bounds b 0 < get_or s.marks.items c.args.node 0 =
    λ b h.
    elim (cases_eq b (length bounds - 1)) [
      | inl e ↦ rw e (omega (arith, mark, f.low))
      | inr ne ↦ omega (arith, mark, f.low, j.bounds_rise b (length bounds - 1) (omega (arith, h, ne)) (omega (arith, h)))
    ]
    in (
      rw at
          (stepped g s.marks.items s.pending.items bounds s.opened.items s.left.items s.level j c.args.top last some c.requires.top (c.index_mut.result.now - 1)
          (omega (arith, read', positive)) (λ b h. rw (sym next) (low b h))),
      c.requires.walk.1,
    )
