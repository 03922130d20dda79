use Rattle.std.proofs.Common.{◌∙◌, ◌<◌, ◌+◌, true, length, get_or, set, arith, rules}
use Rattle.std.proofs.Math.ListN.{length-set}
use Rattle.digraph_orders.specs.inner.ComponentWalk.{AreGiven}
use Rattle.digraph_orders.specs.inner.ComponentWalk.IsInOrFrom.{was, at_place}
use Rattle.digraph_orders.proofs.WalkLemmas.{inserted_only, inserted_kept, inserted_all}
use Rattle.digraph_orders.proofs.components.walk.give.Goals as goal

pub loop-place-preserved : goal.loop-place-preserved
loop-place-preserved c =
    let i = c.loop-place.invariant in
    let list = c.args.pending.now in
    let place = c.loop-place.place in
    let inside : place < length list = omega (arith, c.loop-place-test.true) in
    let room : get_or list place 0 < length c.loop-place.finished = omega (arith, c.requires.nodes place inside, i.finished_long) in
    let given : AreGiven c.args.marks.now.items (set c.loop-place.marks.items (get_or list place 0) c.args.level) c.args.from (place + 1) c.args.level = search rules in
    rw c.insert.ensures
    (record {
      long = length-set c.loop-place.marks.items (get_or list place 0) c.args.level ∙ i.long;
      within = omega (arith, inside);
      given = given;
      finished_long = length-set c.loop-place.finished (get_or list place 0) true ∙ i.finished_long;
      only = inserted_only c.args.finished.now c.loop-place.finished list c.args.from place (omega (arith, c.loop-place.auto.place)) inside i.only;
      kept = λ v h. inserted_kept c.loop-place.finished (get_or list place 0) v (i.kept v h);
      all = inserted_all c.loop-place.finished list c.args.from place room i.all;
    })

pub returns-clause-given : goal.returns-clause-given
returns-clause-given c =
    let i = c.loop-place.invariant in
    record {
      given = λ v a b. i.given.given v a (omega (arith, b, c.loop-place-test.false));
      low = i.given.low;
      high = λ v h. i.given.high v (omega (arith, h, i.within));
    }

pub returns-clause-all : goal.returns-clause-all
returns-clause-all c =
    let i = c.loop-place.invariant in
    λ v h.
    elim h [
      | was q ↦ i.kept v q
      | at_place k a b e ↦ let h = i.all k a (omega (arith, b, c.loop-place-test.false)) in rw e at h
    ]
