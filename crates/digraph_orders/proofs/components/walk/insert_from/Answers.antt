use Rattle.std.proofs.Common.{◌∙◌, ◌<◌, true, length, get_or, arith}
use Rattle.std.proofs.Math.ListN.{length-set}
use Rattle.digraph_orders.proofs.WalkLemmas.{inserted_only, inserted_kept, inserted_all}
use Rattle.digraph_orders.specs.inner.ComponentWalk.IsInOrFrom.{was, at_place}
use Rattle.digraph_orders.proofs.components.walk.insert_from.Goals as goal

pub loop-place-preserved : goal.loop-place-preserved
loop-place-preserved c =
    let i = c.loop-place.invariant in
    let list = c.args.pending.now in
    let place = c.loop-place.place in
    let inside : place < length list = omega (arith, c.loop-place-test.true) in
    let room : get_or list place 0 < length c.loop-place.set = omega (arith, c.requires place inside, i.long) in
    rw c.insert.ensures
    (record {
      long = length-set c.loop-place.set (get_or list place 0) true ∙ i.long;
      only = inserted_only c.args.set.now c.loop-place.set list c.args.from place (omega (arith, c.loop-place.auto.place)) inside i.only;
      kept = λ v h. inserted_kept c.loop-place.set (get_or list place 0) v (i.kept v h);
      all = inserted_all c.loop-place.set list c.args.from place room i.all;
    })

pub returns-clause-all : goal.returns-clause-all
returns-clause-all c =
    let i = c.loop-place.invariant in
    λ v h.
    elim h [
      | was q ↦ i.kept v q
      | at_place k a b e ↦ let h = i.all k a (omega (arith, b, c.loop-place-test.false)) in rw e at h
    ]
