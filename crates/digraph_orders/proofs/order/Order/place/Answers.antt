use Rattle.std.proofs.Common.{rules, ◌≡◌, ◌<◌, length, get_or, arith, sym, subst, slice_get, Some, vec_len}
use Rattle.std.proofs.lemmas.List.{get_or_read}
use Rattle.digraph_orders.specs.Sequences.{Sequence}
use Rattle.digraph_orders.proofs.SequenceLemmas.{place_read}
use Rattle.digraph_orders.proofs.order.Order.place.Goals as goal

pub index-requires : goal.index-requires
index-requires c =
    let inside : c.args.node < length c.self.inside.list.items = subst (λ (o : Sequence). c.args.node < length o.list) (sym c.self.view_is) c.requires in
    let v : vec_len c.self.inside.places ≡ length c.self.inside.places.items = search rules in
    omega (arith, v, inside, c.self.invariant.2.long)

pub returns : goal.returns
returns c =
    let list = c.self.inside.list.items in
    let places = c.self.inside.places.items in
    let inside : c.args.node < length list = subst (λ (o : Sequence). c.args.node < length o.list) (sym c.self.view_is) c.requires in
    let read : c.index.result.now ≡ get_or places c.args.node 0 = get_or_read places c.args.node c.index.result.now (omega (arith, inside, c.self.invariant.2.long)) c.index.ensures 0 in
    subst (λ (o : Sequence). slice_get o.list c.index.result.now ≡ Some c.args.node) c.self.view_is
    (rw read (place_read list places c.self.invariant.2 c.self.invariant.0.each c.args.node inside))
