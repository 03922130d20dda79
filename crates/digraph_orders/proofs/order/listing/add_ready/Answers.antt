use Rattle.std.proofs.Common.{◌<◌, length, ◌∙◌, arith, inl, inr}
use Rattle.std.proofs.lemmas.Bool.{cases_eq}
use Rattle.std.proofs.lemmas.List.Elements.{Contains-get_or}
use Rattle.digraph_orders.proofs.order.listing.add_ready.Goals as goal

pub loop-place-preserved : goal.loop-place-preserved
loop-place-preserved c =
    let i = c.loop-place.invariant in
    let k = c.loop-place.place in
    let row = c.args.row.now in
    let a = c.wait.ensures.waits in
    let inside : k < length row = c.loop-place-test.true in
    record {
      room = c.wait.ensures.room ∙ i.room;
      ready_all = λ j h z ne. elim (cases_eq j k) [ inl e ↦ rw e (a.now (rw e at z) (rw e at ne)) | inr o ↦ a.kept _ (i.ready_all j (omega arith) z ne) ];
      ready_only = λ y cy. elim (a.only y cy) [ inl e ↦ rw e.0 (Contains-get_or row k 0 inside, e.1) | inr o ↦ i.ready_only y o ];
    }
