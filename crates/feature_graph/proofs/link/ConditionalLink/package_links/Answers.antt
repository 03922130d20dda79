use Rattle.std.proofs.Common.{◌≡◌, length, subst, Some}
use Rattle.std.specs.Prelude.{slice_get}
use Rattle.feature_links.specs.Values.{link_facts}
use Rattle.feature_graph.proofs.Offered.{link_stands, all_below}
use Rattle.feature_graph.proofs.link.ConditionalLink.package_links.Goals as goal

pub new-requires : goal.new-requires
new-requires c =
    let link = c.args.self.now in
    let built = link.graph.built.now in
    let facts = link_facts c.facts.result.now in
    all_below c.package_link_ixs.result.now (length link.graph.graph.now.links)
    (λ i k at. c.link_numbers.ensures built link.edge link.half facts i k link.graph.is_built (link_stands built link.edge link.half facts c.facts.ensures) (subst (λ z. slice_get z i ≡ Some k) c.package_link_ixs.ensures at))
