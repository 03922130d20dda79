use Rattle.std.proofs.Common.{rules, ◌≡◌, ◌+◌, ◌-◌, ◌++◌, ◌∷◌, [], length, arith}
use Rattle.std.specs.Prelude.{sum_by}
use Rattle.std.proofs.lemmas.List.Sums.{sum_by-append}
use Rattle.digraph_orders.proofs.OutEdgeLemmas.{out_length, length_push}
use Rattle.digraph_orders.proofs.ComponentLemmas.{entered, entered_fewer, few_more, more, fewer_steps}
use Rattle.digraph_orders.proofs.WalkLemmas.{finished_entered}
use Rattle.digraph_orders.proofs.components.walk.Walk.enter.Goals as goal

pub returns-clause-walk : goal.returns-clause-walk
returns-clause-walk c =
    let g = c.args.graph.now in
    let s = c.args.self.now in
    let d = c.out_edges-edges.result.end - c.out_edges-edges.result.start in
    let l = out_length g c.args.node c.out_edges-edges.result.start c.out_edges-edges.result.end c.out_edges-edges.ensures.numbers in
    let n : c.len-place.result ≡ length s.pending.items = search rules in
    rw (c.in_ok-push.ensures.items, c.in_ok-push-2.ensures.items, c.in_ok-push-3.ensures.items, c.in_ok-push-4.ensures.items, n) (
      entered g s.marks.items s.pending.items s.bounds.items s.opened.items s.left.items s.level c.requires.walk.0 c.args.node c.requires.node c.requires.new c.requires.led _ _ _ _
          (more s.pending.items c.args.node) (more s.bounds.items (length s.pending.items)) (more s.opened.items c.args.node) (rw l (more s.left.items d)),
      finished_entered g.nodes s.marks.items s.finished s.several c.args.node (length s.pending.items + 1) (omega (arith, c.requires.node, c.requires.walk.0.marks_long))
          (few_more g s.marks.items s.pending.items s.bounds.items s.opened.items s.left.items s.level c.requires.walk.0 c.args.node c.requires.node c.requires.new) c.requires.new c.requires.walk.1,
    )

pub returns-clause-steps : goal.returns-clause-steps
returns-clause-steps c =
    let g = c.args.graph.now in
    let s = c.args.self.now in
    let e = length g.edges in
    let d = c.out_edges-edges.result.end - c.out_edges-edges.result.start in
    let n : c.len-place.result ≡ length s.pending.items = search rules in
    let fewer = entered_fewer g s.marks.items s.pending.items s.bounds.items s.opened.items s.left.items s.level c.requires.walk.0 c.args.node c.requires.node c.requires.new in
    let sums : sum_by (λ k. k) (s.left.items ++ d ∷ []) ≡ sum_by (λ k. k) s.left.items + d = omega (arith, sum_by-append (λ k. k) s.left.items (d ∷ [])) in
    rw (c.in_ok-push-3.ensures.items, c.in_ok-push-4.ensures.items, n, sums, length_push s.opened.items c.args.node)
    (fewer_steps _ _ e _ d _ (rw fewer (omega arith)) (omega (arith, c.out_edges-edges.ensures.within)))
