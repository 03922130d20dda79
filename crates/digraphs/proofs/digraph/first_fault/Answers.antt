use Rattle.std.proofs.Common.{◌≡◌, ◌-◌, ◌<◌, ℕ, List, length, get_or, arith, refl, sym}
use Rattle.std.proofs.lemmas.Bool.{true≢false}
use Rattle.std.specs.Prelude.{false}
use Rattle.digraphs.specs.declared.digraph.Edge.{Edge}
use Rattle.digraphs.specs.Graph.{for_its_ends, for_its_place, JoinsNodes}
use Rattle.digraphs.proofs.FaultLemmas.{source_read, target_read, comes_after, is_before_read, sound_more}
use Rattle.digraphs.proofs.digraph.first_fault.Goals as goal
use Rattle.digraphs.proofs.digraph.first_fault.Goals.{then-edge-nodes-via-then-edge-nodes, then-edge-nodes-via-else-edge-nodes+then-edge-nodes-2, then-place-gt0+else-not-is_before, else-place-gt0}

no_edge : Edge
no_edge = record { from = 0; to = 0; non_dev = false }

pub returns-then-edge-nodes-clause-some : goal.returns-then-edge-nodes-clause-some
unfolding no_edge
returns-then-edge-nodes-clause-some c =
    let es = c.args.edges.now in
    let k = c.loop-place.place in
    let from = source_read es k no_edge c.loop-place-test.true in
    let to = target_read es k no_edge c.loop-place-test.true in
    for_its_ends k c.loop-place-test.true c.loop-place.invariant
    (λ j.
    elim c.then-edge-nodes.branch [
      | then-edge-nodes-via-then-edge-nodes w ↦ omega (arith, from, j.from, w.if-edge-nodes.true)
      | then-edge-nodes-via-else-edge-nodes+then-edge-nodes-2 w ↦ omega (arith, to, j.to, w.if-edge-nodes-2.true)
    ])

-- Both ends are nodes if neither test holds.
ends : (n : ℕ) (es : List Edge) (k : ℕ) → k < length es → (get_or es k no_edge).from < n → (get_or es k no_edge).to < n → JoinsNodes n es k
ends n es k l f t = record { from = omega (arith, source_read es k no_edge l); to = omega (arith, target_read es k no_edge l) }

pub returns-then-not-is_before-clause-some : goal.returns-then-not-is_before-clause-some
unfolding no_edge
returns-then-not-is_before-clause-some c =
    let es = c.args.edges.now in
    let k = c.loop-place.place in
    let inside : k - 1 < length es = omega arith in
    for_its_place (k - 1) k (omega arith) c.loop-place-test.true c.loop-place.invariant
    (ends c.args.nodes es k c.loop-place-test.true c.if-edge-nodes.false c.if-edge-nodes-2.false)
    (λ after. true≢false (sym (c.if-not-is_before.ensures.1 (is_before_read es (k - 1) k no_edge inside c.loop-place-test.true after))))

pub loop-place-preserved : goal.loop-place-preserved
unfolding no_edge
loop-place-preserved c =
    let es = c.args.edges.now in
    let k = c.loop-place.place in
    sound_more c.args.nodes es k c.loop-place.invariant
    (record {
      nodes = ends c.args.nodes es k c.loop-place-test.true c.if-edge-nodes.false c.if-edge-nodes-2.false;
      sorted = λ j is.
          let before : j ≡ k - 1 = omega arith in
          let inside : k - 1 < length es = omega arith in
          elim c.if-place-gt0.branch [
            | then-place-gt0+else-not-is_before w ↦ rw before (comes_after es (k - 1) k no_edge inside c.loop-place-test.true (w.if-not-is_before.ensures.0 refl))
            | else-place-gt0 w ↦ absurd (omega arith)
          ];
    })
