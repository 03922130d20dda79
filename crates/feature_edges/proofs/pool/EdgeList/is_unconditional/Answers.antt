use Rattle.std.proofs.Common.{rules, ◌≡◌, ◌∙◌, ap, length, vec_len, arith}
use Rattle.std.specs.Prelude.{slice_get}
use Rattle.std.specs.Option.{option_map}
use Rattle.feature_links.specs.declared.edge.EdgeChoice.TheVariants.{FeatureToBaseAndNamed}
use Rattle.feature_edges.specs.Choices.{is_chosen}
use Rattle.feature_edges.proofs.PoolLemmas.{number_within, chosen_there}
use Rattle.feature_edges.proofs.SameLists.{read}
use Rattle.feature_edges.proofs.pool.EdgeList.is_unconditional.Goals as goal

pub index-requires : goal.index-requires
index-requires c =
    let l = c.self.inside in
    let within = number_within l.pool.items l.places.items c.args.self.now c.args.number c.self.view_is c.requires in
    let long : vec_len l.places ≡ length l.places.items = search rules in
    omega (arith, within, long)

pub returns : goal.returns
returns c =
    let l = c.self.inside in
    let place = c.index.result.now in
    let within = number_within l.pool.items l.places.items c.args.self.now c.args.number c.self.view_is c.requires in
    let there = read l.places.items c.args.number place within c.index.ensures in
    chosen_there l.pool.items l.places.items c.args.number place there c.self.invariant.0 c.self.invariant.1
    ∙ ap (λ z. option_map (is_chosen FeatureToBaseAndNamed) (slice_get z c.args.number)) c.self.view_is
