use Rattle.std.proofs.Common.{◌∙◌, ◌++◌, ◌∷◌, [], ap, sym, subst}
use Rattle.feature_edges.specs.inner.Pools.{AreWithin}
use Rattle.feature_links.specs.Values.{edge_facts}
use Rattle.feature_edges.proofs.PoolLemmas.{still_within, more_within, more_facts}
use Rattle.feature_edges.proofs.pool.EdgeList.push.Goals as goal

pub invariant_of-self : goal.invariant_of-self
invariant_of-self c = (still_within c.self.inside.pool.items c.place_of.new.pool.items c.in_err-place.ensures.kept c.self.inside.places.items c.self.invariant.0, c.in_err-place.ensures.parted)

pub invariant_of-self-in_err-push : goal.invariant_of-self-in_err-push
invariant_of-self-in_err-push c =
    let old = c.self.inside.pool.items in
    let new = c.place_of.new.pool.items in
    let same = still_within old new c.in_ok-place.ensures.kept c.self.inside.places.items c.self.invariant.0 in
    (subst (AreWithin new) (sym c.in_err-push.ensures.items) same, c.in_ok-place.ensures.parted)

pub invariant_of-self-2 : goal.invariant_of-self-2
invariant_of-self-2 c =
    let old = c.self.inside.pool.items in
    let new = c.place_of.new.pool.items in
    let made = c.in_ok-place.ensures in
    (more_within old new made.kept c.self.inside.places.items c.push.new.self.items c.in_ok-place.place (edge_facts c.args.edge) c.self.invariant.0 made.place c.in_ok-push.ensures.items, made.parted)

pub returns : goal.returns
returns c =
    let old = c.self.inside.pool.items in
    let new = c.place_of.new.pool.items in
    let made = c.in_ok-place.ensures in
    more_facts old new made.kept c.self.inside.places.items c.push.new.self.items c.in_ok-place.place (edge_facts c.args.edge) c.self.invariant.0 made.place c.in_ok-push.ensures.items
    ∙ ap (λ z. z ++ edge_facts c.args.edge ∷ []) c.self.view_is
