use Rattle.std.proofs.Common.{◌∙◌, ◌++◌, ◌∷◌, [], ap}
use Rattle.std.specs.Prelude.{slice_get}
use Rattle.feature_edges.proofs.PoolLemmas.{number_within, said_there, more_facts}
use Rattle.feature_edges.proofs.SameLists.{read}
use Rattle.feature_edges.proofs.pool.EdgeList.repeat.Goals as goal

pub returns : goal.returns
returns c f e =
    let l = c.self.inside in
    let pool = l.pool.items in
    let places = l.places.items in
    let n = c.args.number in
    let place = c.index-place.result.now in
    let within = number_within pool places c.args.self.now n c.self.view_is c.requires in
    let at = read places n place within c.index-place.ensures in
    let here = said_there pool places n place at c.self.invariant.0 f (ap (λ z. slice_get z n) c.self.view_is ∙ e) in
    more_facts pool pool (λ p g h. h) places c.push.new.self.items place f c.self.invariant.0 here c.in_ok-push.ensures.items
    ∙ ap (λ z. z ++ f ∷ []) c.self.view_is
