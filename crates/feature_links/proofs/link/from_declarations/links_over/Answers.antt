use Rattle.std.proofs.Common.{◌≡◌, ◌∙◌, ◌∷◌, [], subst}
use Rattle.std.specs.Prelude.{filter}
use Rattle.guppy_packages.specs.Metadata.{link_table_of}
use Rattle.guppy_packages.specs.Stored.{declared}
use Rattle.feature_links.specs.Links.{includes, links_at}
use Rattle.std.proofs.lemmas.Result.{IfOk-weaker}
use Rattle.feature_links.proofs.LinkLemmas.{one_covered, over_of_parts}
use Rattle.feature_links.proofs.link.from_declarations.links_over.Goals as goal

pub returns-in-Some : goal.returns-in-Some
returns-in-Some c =
    let which = c.args.which in
    let declaration = declared c.in-Some.declaration.now in
    IfOk-weaker c.link_over_one.result _ _ (λ l holds.
    holds
    ∙ one_covered c.args.graph.now which c.args.links.now (link_table_of c.link.result) declaration c.in-len1.len_at_least c.in-len1.len_below c.link.ensures.link
    (subst (λ ds. filter (λ d. includes which d) ds ≡ declaration ∷ []) c.declarations-declarations.ensures c.in-Some.ensures)) c.link_over_one.ensures

pub returns : goal.returns
returns c = IfOk-weaker c.collected.result _ _ (λ l holds. holds ∙ over_of_parts c.args.which (λ d. includes c.args.which d) (links_at c.args.graph.now c.args.links.now)) c.collected.ensures
