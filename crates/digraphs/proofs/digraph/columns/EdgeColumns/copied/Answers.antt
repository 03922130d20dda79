use Rattle.std.proofs.Common.{◌∙◌, sym, arith}
use Rattle.std.proofs.lemmas.List.{take_all, take_more}
use Rattle.std.specs.Prelude.{false}
use Rattle.digraphs.specs.declared.digraph.Edge.{Edge}
use Rattle.digraphs.proofs.digraph.columns.EdgeColumns.copied.Goals as goal

no_edge : Edge
no_edge = record { from = 0; to = 0; non_dev = false }

pub loop-place-preserved : goal.loop-place-preserved
unfolding no_edge
loop-place-preserved c =
    let edges = c.args.edges.now in
    let k = c.loop-place.place in
    c.in_ok-push.ensures.pushed ∙ rw c.loop-place.invariant (sym (take_more edges k no_edge c.loop-place-test.true))

pub returns : goal.returns
returns c = c.loop-place.invariant ∙ take_all c.loop-place.place c.args.edges.now (omega arith)
