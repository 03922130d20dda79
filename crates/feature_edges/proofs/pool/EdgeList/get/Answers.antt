use Rattle.std.proofs.Common.{rules, ◌≡◌, ◌∙◌, ap, sym, length, vec_len, arith}
use Rattle.std.specs.Prelude.{slice_get}
use Rattle.feature_edges.proofs.PoolLemmas.{number_within, place_within, facts_there}
use Rattle.feature_edges.proofs.SameLists.{read}
use Rattle.feature_edges.proofs.pool.EdgeList.get.Goals as goal

pub index-place-requires : goal.index-place-requires
index-place-requires c =
    let l = c.self.inside in
    let within = number_within l.pool.items l.places.items c.args.self.now c.args.number c.self.view_is c.requires in
    let long : vec_len l.places ≡ length l.places.items = search rules in
    omega (arith, within, long)

pub index-requires : goal.index-requires
index-requires c =
    let l = c.self.inside in
    let place = c.index-place.result.now in
    let within = number_within l.pool.items l.places.items c.args.self.now c.args.number c.self.view_is c.requires in
    let below = place_within l.pool.items l.places.items c.args.number place (read l.places.items c.args.number place within c.index-place.ensures) c.self.invariant.0 in
    let long : vec_len l.pool ≡ length l.pool.items = search rules in
    omega (arith, below, long)

pub returns : goal.returns
returns c =
    let l = c.self.inside in
    let place = c.index-place.result.now in
    let edge = c.index.result.now in
    let within = number_within l.pool.items l.places.items c.args.self.now c.args.number c.self.view_is c.requires in
    let there = read l.places.items c.args.number place within c.index-place.ensures in
    let below = place_within l.pool.items l.places.items c.args.number place there c.self.invariant.0 in
    ap (λ z. slice_get z c.args.number) (sym c.self.view_is) ∙ facts_there l.pool.items l.places.items c.args.number place there edge (read l.pool.items place edge below c.index.ensures)
