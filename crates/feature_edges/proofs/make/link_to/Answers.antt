use Rattle.std.proofs.Common.{◌∙◌, ap}
use Rattle.feature_links.specs.Links.{by_name}
use Rattle.std.proofs.lemmas.Result.{IfOk-weaker}
use Rattle.feature_edges.proofs.MaterialLemmas.{package_of_name}
use Rattle.feature_edges.proofs.make.link_to.Goals as goal

pub returns : goal.returns
returns c = IfOk-weaker c.named_link.result _ _ (λ l holds p d h.
    let t = c.args.material.numbers.graph.now in
    let which = c.args.which in
    let name = c.name_at-name.ensures p d h in
    let home = package_of_name t c.args.material.packages.now c.args.ix p d c.requires.material.packages h in
    holds ∙ ap (λ z. by_name t z which c.name_at-name.result.now) home ∙ ap (λ z. by_name t p which z) name) c.named_link.ensures
