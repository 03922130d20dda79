use Rattle.std.proofs.Common.{◌≡◌, ◌<◌, ◌∙◌, ℕ, true, Bool, List, length, set, ap, arith}
use Rattle.digraphs.specs.Bits.{has}
use Rattle.digraph_orders.specs.Sequences.{component_of}
use Rattle.guppy_support.proofs.LoopLemmas.{noted_loop, noted_apart, noted_outside}
use Rattle.guppy_support.proofs.cycles.note_loop.Goals as goal
use Rattle.guppy_support.proofs.cycles.note_loop.Goals.{else-edge-via-then-edge+else-edge-list, else-edge-via-else-edge}

pub returns-then-edge-list-clause-looped : goal.returns-then-edge-list-clause-looped
returns-then-edge-list-clause-looped c =
    λ k h.
    let o = c.args.order.now in
    let noted = c.args.looped.now in
    let from = c.args.edge.from in
    let inside : from < length o.list = omega (arith, c.if-edge-list.true, ap length c.list.ensures) in
    let small : component_of o from < length noted = omega (arith, c.facts.ensures.below from inside, c.requires.size) in
    let at : c.insert.new.self ≡ set noted (component_of o from) true = c.insert.ensures ∙ ap (λ (x : ℕ). set noted x true) c.component.ensures in
    ap (λ (s : List Bool). has s k) at ∙ noted_loop o c.facts.ensures.each noted c.args.edge k c.if-edge.true inside small

pub returns-else-edge-clause-looped : goal.returns-else-edge-clause-looped
returns-else-edge-clause-looped c =
    λ k h.
    let o = c.args.order.now in
    let noted = c.args.looped.now in
    elim c.else-edge.branch [
      | else-edge-via-then-edge+else-edge-list w ↦ noted_outside o c.facts.ensures.each noted c.args.edge k (λ l. omega (arith, l, w.if-edge-list.false, ap length w.list.ensures))
      | else-edge-via-else-edge w ↦ noted_apart o noted c.args.edge k w.if-edge.false
    ]
