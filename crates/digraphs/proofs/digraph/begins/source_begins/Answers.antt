use Rattle.std.proofs.Common.{◌≡◌, ◌<◌, inl, inr, length, arith, refl}
use Rattle.std.proofs.lemmas.Bool.{cases_eq}
use Rattle.std.proofs.lemmas.List.{length-map}
use Rattle.digraphs.specs.declared.digraph.Edge.{Edge}
use Rattle.digraphs.specs.Graph.{Graph, sources, source_of}
use Rattle.digraphs.proofs.FaultLemmas.{ascends, source_got}
use Rattle.digraphs.proofs.BeginLemmas.{begun_up}
use Rattle.digraphs.proofs.digraph.begins.source_begins.Goals as goal

pub loop-place-preserved : goal.loop-place-preserved
loop-place-preserved c =
    let es = c.args.edges.now in
    let k = c.loop-place.place in
    let i = c.loop-place.invariant in
    let e = c.in_ok-begin_up_to.ensures in
    let digraph : Graph = record { nodes = c.args.nodes; edges = es } in
    let edges = length-map es (λ (d : Edge). d.from) in
    let inside : k < length es = omega (arith, c.loop-place-test.true, c.len-end.ensures) in
    let read = source_got es k c.edge.result inside c.edge.ensures in
    let node = (c.requires.sound k inside).nodes.from in
    record {
      begun = begun_up (sources es) c.loop-place.begins.items c.begin_up_to.new.begins.items c.edge.result.from k i.begun (omega (arith, edges, inside)) i.before
          (λ j g l.
          let lj : j < length es = omega (arith, l, edges) in
          elim (cases_eq k j) [
            | inl is ↦ let same : source_of es k ≡ source_of es j = rw is refl in omega (arith, read, same)
            | inr ne ↦ omega (arith, read, (ascends digraph c.requires.sound k j (omega arith) lj).by_first)
          ])
          e.long e.kept e.added;
      before = λ j l. elim (cases_eq j k) [ inl is ↦ rw is (omega (arith, read, e.long)) | inr ne ↦ omega (arith, i.before j (omega arith), e.long) ];
      few = omega (arith, e.long, read, node, i.few);
    }

pub returns : goal.returns
returns c =
    let es = c.args.edges.now in
    let i = c.loop-place.invariant in
    let e = c.in_ok-begin_up_to-2.ensures in
    let edges = length-map es (λ (d : Edge). d.from) in
    record {
      long = omega (arith, e.long, i.few);
      begun = begun_up (sources es) c.loop-place.begins.items c.begin_up_to-2.new.begins.items c.args.nodes c.len-end.result i.begun (omega (arith, edges, c.len-end.ensures))
          (λ j l. i.before j (omega (arith, l))) (λ j g l. absurd (omega (arith, g, l, edges, c.len-end.ensures))) e.long e.kept e.added;
    }
