use Rattle.std.proofs.Common.{◌≡◌, ◌∙◌, ◌+◌, Bool, List, false, length, drop, ap, arith}
use Rattle.std.specs.Prelude.{◌||◌}
use Rattle.std.specs.List.{list_any}
use Rattle.std.proofs.lemmas.List.{length-replicate, drop_all}
use Rattle.digraphs.specs.Bits.{has}
use Rattle.guppy_support.specs.Cycles.{nodes_of, has_loop}
use Rattle.guppy_support.proofs.LoopLemmas.{loop_more, loops_end}
use Rattle.guppy_support.proofs.Places.{rest_some}
use Rattle.guppy_support.proofs.RootLemmas.{none_noted}
use Rattle.guppy_support.proofs.cycles.looped_components.Goals as goal

pub loop-number-init : goal.loop-number-init
loop-number-init c =
    let es = c.args.digraph.now.edges in
    let o = c.args.order.now in
    record {
      size = ap length c.in_ok-looped.ensures ∙ length-replicate c.component_count.result false ∙ c.component_count.ensures;
      looped = λ k h.
          let none : has c.in_ok-looped.looped k ≡ false = ap (λ (s : List Bool). has s k) c.in_ok-looped.ensures ∙ none_noted c.component_count.result k (omega (arith, h, c.component_count.ensures)) in
          ap (λ (b : Bool). b || list_any (has_loop es) (nodes_of o k)) none;
    }

pub loop-number-preserved : goal.loop-number-preserved
loop-number-preserved c =
    let es = c.args.digraph.now.edges in
    let o = c.args.order.now in
    let number = c.loop-number.number in
    record {
      size = c.note_loop.ensures.size;
      looped = λ k h.
          loop_more (nodes_of o k) (has c.loop-number.looped k) (has c.note_loop.new.looped k) (list_any (has_loop es) (nodes_of o k)) c.edge.result (drop number es) (drop (number + 1) es)
          (rest_some es number c.edge.result c.edge.ensures) (c.note_loop.ensures.looped k h) (c.loop-number.invariant.looped k h);
    }

pub returns-clause-looped : goal.returns-clause-looped
returns-clause-looped c =
    λ k h.
    let es = c.args.digraph.now.edges in
    let o = c.args.order.now in
    let number = c.loop-number.number in
    loops_end (nodes_of o k) (has c.loop-number.looped k) (list_any (has_loop es) (nodes_of o k)) (drop number es) (drop_all number es (omega (arith, c.edge_count-number-end.ensures))) (c.loop-number.invariant.looped k h)
