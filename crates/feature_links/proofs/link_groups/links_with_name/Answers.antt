use Rattle.std.proofs.Common.{of_calls, rules}
use Rattle.std.proofs.lemmas.Fn.{always_returns_same}
use Rattle.feature_links.specs.inner.LinkOrder.{link_name}
use Rattle.feature_links.proofs.NameLemmas.{is_below, parted_below, halved}
use Rattle.feature_links.proofs.link_groups.links_with_name.Goals as goal

pub returns : goal.returns
returns c =
    let name = c.args.name.now in
    let links = c.args.links.now in
    let first = c.partition_point-first.result in
    let text = link_name c.args.graph.now in
    let low = c.partition_point-first.ensures.partitioned (is_below text name) (always_returns_same _ _ _ (λ a r f k. search (rules, of_calls))) (parted_below text links c.requires name) in
    halved text name links first c.end_place-end.result c.requires c.end_place-end.ensures.from c.end_place-end.ensures.within c.end_place-end.ensures.inside c.end_place-end.ensures.ended low
