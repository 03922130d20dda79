use Rattle.std.proofs.Common.{rules, ◌≡◌, ◌∙◌, ap, sym, length}
use Rattle.feature_edges.proofs.PoolLemmas.{facts_long}
use Rattle.feature_edges.proofs.pool.EdgeList.len.Goals as goal

pub returns : goal.returns
returns c =
    let l = c.self.inside in
    let count : c.len.result ≡ length l.places.items = search rules in
    count ∙ sym (facts_long l.pool.items l.places.items) ∙ ap length c.self.view_is
