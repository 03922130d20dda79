use Rattle.std.proofs.Common.{◌+◌, ◌-◌, ◌<◌, ◌/◌, inl, inr, sym, ap, length, arith, refl}
use Rattle.std.proofs.lemmas.Bool.{cases_lt}
use Rattle.digraphs.specs.Graph.{Graph}
use Rattle.digraphs.proofs.FaultLemmas.{IsBelow, IsAbove, source_got, target_got, below_too, above_too, no_edge_between}
use Rattle.digraphs.proofs.digraph.Digraph.edge_between.Goals as goal

pub loop-low-preserved-then-is_before : goal.loop-low-preserved-then-is_before
loop-low-preserved-then-is_before c =
    let es = c.self.inside.edges in
    let g : Graph = record { nodes = c.self.inside.nodes; edges = es } in
    let middle = c.loop-low.low + (c.loop-low.high - c.loop-low.low) / 2 in
    let i = c.loop-low.invariant in
    let inside : middle < length es = omega arith in
    let here : IsBelow es middle c.args.from c.args.to = rw (source_got es middle c.edge-edge.result inside c.edge-edge.ensures, target_got es middle c.edge-edge.result inside c.edge-edge.ensures) (c.if-is_before.ensures.0 refl) in
    record {
      bounds = omega arith;
      within = i.within;
      below = λ k h. below_too g c.self.invariant.0 k middle c.args.from c.args.to (omega arith) inside here;
      above = i.above;
    }

pub loop-low-preserved : goal.loop-low-preserved
loop-low-preserved c =
    let es = c.self.inside.edges in
    let g : Graph = record { nodes = c.self.inside.nodes; edges = es } in
    let middle = c.loop-low.low + (c.loop-low.high - c.loop-low.low) / 2 in
    let i = c.loop-low.invariant in
    let inside : middle < length es = omega arith in
    let here : IsAbove es middle c.args.from c.args.to = rw (source_got es middle c.edge-edge.result inside c.edge-edge.ensures, target_got es middle c.edge-edge.result inside c.edge-edge.ensures) (c.if-is_before-2.ensures.0 refl) in
    record {
      bounds = omega arith;
      within = omega arith;
      below = i.below;
      above = λ k h l. above_too g c.self.invariant.0 middle k c.args.from c.args.to h l here;
    }

pub returns-clause-none : goal.returns-clause-none
returns-clause-none c =
    let es = c.self.inside.edges in
    let i = c.loop-low.invariant in
    rw (ap (λ (g : Graph). g.edges) (sym c.self.view_is))
    (no_edge_between es c.args.from c.args.to
    (λ k l. elim (cases_lt k c.loop-low.low) [ inl h ↦ inl (i.below k h) | inr h ↦ inr (i.above k (omega arith) l) ]))
