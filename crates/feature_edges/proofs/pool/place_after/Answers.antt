use Rattle.std.proofs.Common.{rules, ◌≡◌, map, length, Some, sym, subst}
use Rattle.std.specs.Prelude.{slice_get}
use Rattle.feature_edges.specs.inner.Pools.{IsParted, Keeps}
use Rattle.feature_links.specs.Values.{edge_facts}
use Rattle.feature_edges.proofs.PoolLemmas.{keeps_more, parted_more, last_place}
use Rattle.feature_edges.proofs.pool.place_after.Goals as goal

pub returns-clause-parted : goal.returns-clause-parted
returns-clause-parted c =
    let old = c.args.pool.now.items in
    subst IsParted (sym c.in_ok-push.ensures.items) (parted_more old c.args.edge c.requires.conditional c.requires.parted)

pub returns-clause-kept : goal.returns-clause-kept
returns-clause-kept c =
    let old = c.args.pool.now.items in
    subst (Keeps old) (sym c.in_ok-push.ensures.items) (keeps_more old c.args.edge)

pub returns-clause-place : goal.returns-clause-place
returns-clause-place c =
    let old = c.args.pool.now.items in
    let end : c.len-place.result ≡ length old = search rules in
    subst (λ z. slice_get (map edge_facts z) c.len-place.result ≡ Some (edge_facts c.args.edge)) (sym c.in_ok-push.ensures.items) (last_place old c.args.edge c.len-place.result end)

pub returns-in_err-push-clause-kept : goal.returns-in_err-push-clause-kept
returns-in_err-push-clause-kept c = subst (Keeps c.args.pool.now.items) (sym c.in_err-push.ensures.items) (λ p f h. h)
